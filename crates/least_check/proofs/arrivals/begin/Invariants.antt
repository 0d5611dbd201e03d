use Rattle.least_check.specs.Arrivals.{AreOfStarts}
use Rattle.least_check.proofs.arrivals.begin.Given as goal

abbrev pub invariant-loop-number : goal.invariant-loop-number
invariant-loop-number l = AreOfStarts l.problem l.number l.arrivals
