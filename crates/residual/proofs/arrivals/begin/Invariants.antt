use Rattle.residual.specs.Sweeps.{AreReached, SuitStarts}
use Rattle.residual.proofs.arrivals.begin.Given as goal

abbrev pub invariant-loop-start : goal.invariant-loop-start
invariant-loop-start l = AreReached l.problem l.arrivals × SuitStarts l.problem l.arrivals l.start-index
