use Rattle.block_readings.proofs.FilesRead.{reads-as_meant}
use Rattle.block_readings.proofs.laws.block_files_read_as_meant.Goals as goal

pub returns : goal.returns
returns c = λ x arcs commands policy arrivals given block through reached. reads-as_meant x arcs commands policy given block through reached arrivals
