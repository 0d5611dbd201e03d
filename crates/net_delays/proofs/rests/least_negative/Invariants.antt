use Rattle.net_delays.specs.Drives.{drive_of}
use Rattle.net_delays.specs.Alongs.{sum_of}
use Rattle.net_delays.specs.Rests.{IsLeastNegative}
use Rattle.net_delays.proofs.rests.least_negative.Given as goal

abbrev pub invariant-loop-along : goal.invariant-loop-along
invariant-loop-along l = IsLeastNegative (drive_of l.drivers) (sum_of l.sums) l.alongs l.along-index l.least
