use Rattle.std.proofs.Common.{◌≡◌, length}
use Rattle.net_delays.specs.Drives.{drive_of}
use Rattle.net_delays.specs.Alongs.{AreAdded}
use Rattle.net_delays.proofs.sums.add_up.Given as goal

abbrev pub invariant-loop-pin : goal.invariant-loop-pin
invariant-loop-pin l = (length l.sums ≡ length l.fn.sums) × AreAdded (drive_of l.drivers) l.alongs l.order l.pin-index l.sums
