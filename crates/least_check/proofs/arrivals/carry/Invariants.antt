use Rattle.least_check.proofs.CarrySteps.{IsCarrying, items_left}
use Rattle.least_check.proofs.arrivals.carry.Given as goal

abbrev pub invariant-loop-next : goal.invariant-loop-next
invariant-loop-next l = IsCarrying l.problem l.order l.place l.arrival l.next l.arrivals

abbrev pub decreases-loop-next : goal.decreases-loop-next
decreases-loop-next l = items_left l.problem.items l.next
