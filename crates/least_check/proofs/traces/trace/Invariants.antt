use Rattle.least_check.proofs.TraceSteps.{IsTracing}
use Rattle.least_check.proofs.traces.trace.Given as goal

abbrev pub invariant-loop-last : goal.invariant-loop-last
invariant-loop-last l = IsTracing l.problem l.arrivals l.fn.node.0 l.last l.begin l.path

abbrev pub decreases-loop-last : goal.decreases-loop-last
decreases-loop-last l = l.begin
