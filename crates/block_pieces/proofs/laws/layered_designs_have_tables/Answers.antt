use Rattle.block_pieces.proofs.FileReadings.{HasTable-given}
use Rattle.block_pieces.proofs.laws.layered_designs_have_tables.Goals as goal

pub returns : goal.returns
returns c = HasTable-given
