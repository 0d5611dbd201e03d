use Rattle.block_pieces.proofs.FileReadings.{IsBlockReading-file}
use Rattle.block_pieces.proofs.laws.files_read_as_meant.Goals as goal

pub returns : goal.returns
returns c = λ x arcs commands policy n arrivals block file captures given block_is through reached size are scope_is tops.
    IsBlockReading-file x arcs commands policy given block_is through reached n size arrivals block file are scope_is captures tops
