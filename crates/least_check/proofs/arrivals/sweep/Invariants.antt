use Rattle.least_check.specs.Arrivals.{IsSweep}
use Rattle.least_check.proofs.arrivals.sweep.Given as goal

abbrev pub invariant-loop-place : goal.invariant-loop-place
invariant-loop-place l = IsSweep l.problem l.order l.place l.arrivals
