use Rattle.block_readings.proofs.Accepted.{accepted}
use Rattle.block_readings.proofs.laws.block_files_are_accepted.Goals as goal

pub returns : goal.returns
returns c = λ x arcs commands policy arrivals n given block through reached size. accepted x arcs commands policy given block through reached arrivals n size
