use Rattle.std.proofs.Common.{length}
use Rattle.net_delays.specs.Drives.{drive_of}
use Rattle.net_delays.specs.Climbs.{IsGrown}
use Rattle.net_delays.proofs.forests.grow.Given as goal

abbrev pub invariant-loop-pin : goal.invariant-loop-pin
invariant-loop-pin l = IsGrown (drive_of l.drivers) l.marks.items (length l.drivers) l.pin l.order.items
