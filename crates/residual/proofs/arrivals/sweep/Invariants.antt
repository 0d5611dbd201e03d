use Rattle.residual.specs.Sweeps.{AreReached, Rise, SuitBefore}
use Rattle.residual.proofs.arrivals.sweep.Given as goal

abbrev pub invariant-loop-place : goal.invariant-loop-place
invariant-loop-place l = AreReached l.problem l.arrivals × Rise l.fn.arrivals l.arrivals × SuitBefore l.problem l.order l.arrivals l.place
