use Rattle.std.proofs.Common.{◌≡◌, ◌≤◌, length}
use Rattle.net_delays.specs.Alongs.{AreEndsFrom}
use Rattle.net_delays.proofs.ends.link.Given as goal

abbrev pub invariant-loop-low : goal.invariant-loop-low
invariant-loop-low l =
    (l.low ≤ length l.alongs) × (length l.first ≡ length l.fn.first) × (length l.next ≡ length l.fn.next)
    × AreEndsFrom l.alongs l.low l.first l.next

abbrev pub decreases-loop-low : goal.decreases-loop-low
decreases-loop-low l = l.low
