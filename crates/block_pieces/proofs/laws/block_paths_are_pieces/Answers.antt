use Rattle.block_pieces.proofs.PieceLaws.{ArePieces-reading}
use Rattle.block_pieces.proofs.laws.block_paths_are_pieces.Goals as goal

pub returns : goal.returns
returns c = λ x arcs commands policy captures elsewhere arrivals block given block_is through table alike reading.
    ArePieces-reading x arcs commands policy given block_is through table captures elsewhere alike arrivals block reading
