use Rattle.bud_base.proofs.Trials.{rest_of}
use Rattle.residual.specs.Sweeps.{AreRelaxed}
use Rattle.residual.proofs.arrivals.relax_leaving.Given as goal

abbrev pub invariant-loop-next : goal.invariant-loop-next
invariant-loop-next l = AreRelaxed l.problem l.order l.place l.fn.arrivals l.arrivals l.next

abbrev pub decreases-loop-next : goal.decreases-loop-next
decreases-loop-next l = rest_of l.problem.items l.next
