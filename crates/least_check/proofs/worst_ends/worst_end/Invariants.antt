use Rattle.least_check.specs.WorstEnds.{IsWorstEnd}
use Rattle.least_check.proofs.worst_ends.worst_end.Given as goal

abbrev pub invariant-loop-number : goal.invariant-loop-number
invariant-loop-number l = IsWorstEnd l.problem l.number l.arrivals l.worst
