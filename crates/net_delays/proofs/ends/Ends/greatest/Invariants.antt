use Rattle.std.proofs.Common.{◌≡◌, ◌-◌, length, Option, ℕ}
use Rattle.net_delays.specs.Alongs.{IsEndAt, sum_of, greatest_reach, greater_of}
use Rattle.net_delays.proofs.EndSteps.{greatest_from, left_from}
use Rattle.net_delays.proofs.ends.Ends.greatest.Given as goal

abbrev pub invariant-loop-next : goal.invariant-loop-next
invariant-loop-next l =
    IsEndAt l.alongs l.fn.pin.0 0 l.next
    × (greatest_reach (sum_of l.sums) l.alongs l.fn.pin.0 ≡ greater_of l.best (greatest_from (sum_of l.sums) l.alongs l.fn.pin.0 l.next))

abbrev pub decreases-loop-next : goal.decreases-loop-next
decreases-loop-next l = left_from l.alongs l.next
