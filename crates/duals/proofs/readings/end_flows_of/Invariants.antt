use Rattle.residual.specs.Networks.{end_flow_at}
use Rattle.duals.specs.Terms.{AreTerms}
use Rattle.duals.proofs.readings.end_flows_of.Given as goal

abbrev pub invariant-loop-end : goal.invariant-loop-end
invariant-loop-end l = AreTerms (end_flow_at l.fn.net) l.end l.flows.items
