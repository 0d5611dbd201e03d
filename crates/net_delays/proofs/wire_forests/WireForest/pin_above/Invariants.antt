use Rattle.std.proofs.Common.{◌≡◌}
use Rattle.net_delays.specs.Drives.{drive_of}
use Rattle.net_delays.specs.Forests.{spot_at}
use Rattle.net_delays.proofs.Above.{IsOnWay}
use Rattle.net_delays.proofs.wire_forests.WireForest.pin_above.Given as goal

abbrev pub invariant-loop-spot : goal.invariant-loop-spot
invariant-loop-spot l = (l.spot ≡ spot_at l.self.marks l.above.0) × IsOnWay (drive_of l.self.drivers) l.self.marks l.fn.pin.0 l.depth l.above.0

abbrev pub decreases-loop-spot : goal.decreases-loop-spot
decreases-loop-spot l = l.spot.depth
