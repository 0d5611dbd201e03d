use Rattle.std.proofs.Common.{count_by}
use Rattle.net_delays.specs.Drives.{drive_of}
use Rattle.net_delays.specs.Forests.{is_new}
use Rattle.net_delays.proofs.Climbing.{IsClimbing}
use Rattle.net_delays.proofs.climbs.climb.Given as goal

abbrev pub invariant-climb : goal.invariant-climb
invariant-climb l = IsClimbing (drive_of l.drivers) l.fn.marks l.marks l.path.items l.fn.start.0 l.pin.0

abbrev pub decreases-climb : goal.decreases-climb
decreases-climb l = count_by is_new l.marks
