use Rattle.net_delays.specs.Drives.{drive_of}
use Rattle.net_delays.specs.Climbs.{IsSettling}
use Rattle.net_delays.proofs.forests.settle.Given as goal

abbrev pub invariant-loop-place : goal.invariant-loop-place
invariant-loop-place l = IsSettling (drive_of l.drivers) l.fn.marks l.marks l.path l.place l.order.items

abbrev pub decreases-loop-place : goal.decreases-loop-place
decreases-loop-place l = l.place
