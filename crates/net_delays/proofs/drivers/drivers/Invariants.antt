use Rattle.std.proofs.Common.{◌≡◌, ◌<◌, ◌≤◌, ℕ, length, drop}
use Rattle.bud_design.specs.Designs.{driver_of}
use Rattle.net_delays.specs.Drives.{drive_of}
use Rattle.net_delays.proofs.drivers.drivers.Given as goal

abbrev pub invariant-loop-low : goal.invariant-loop-low
invariant-loop-low l =
    (l.low ≤ length l.wires)
    × (length l.drivers.items ≡ l.fn.pins)
    × ((v : ℕ) → drive_of l.drivers.items v ≡ driver_of (drop l.low l.wires) v)

abbrev pub decreases-loop-low : goal.decreases-loop-low
decreases-loop-low l = l.low
