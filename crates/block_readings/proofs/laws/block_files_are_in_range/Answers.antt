use Rattle.block_readings.proofs.FileRanges.{numbers-read}
use Rattle.block_readings.proofs.laws.block_files_are_in_range.Goals as goal

pub returns : goal.returns
returns c = λ x arcs commands policy early late arrivals blocks given block through reached. numbers-read x arcs commands policy given block through reached early late arrivals blocks
