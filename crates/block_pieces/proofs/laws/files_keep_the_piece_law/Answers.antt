use Rattle.block_pieces.proofs.WholeLaw.{PieceLaw-file}
use Rattle.block_pieces.proofs.laws.files_keep_the_piece_law.Goals as goal

pub returns : goal.returns
returns c = PieceLaw-file
