use Rattle.std.proofs.Common.{◌≤◌, length}
use Rattle.bud_base.proofs.ReachLemmas.{IsPulled}
use Rattle.bud_base.proofs.liveness.mark_reaching.Given as goal

abbrev pub invariant-loop-place : goal.invariant-loop-place
invariant-loop-place l = (l.place ≤ length l.order.order) × IsPulled l.problem l.order.order l.marks l.place

abbrev pub decreases-loop-place : goal.decreases-loop-place
decreases-loop-place l = l.place
