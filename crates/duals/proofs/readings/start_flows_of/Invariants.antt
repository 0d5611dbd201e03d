use Rattle.residual.specs.Networks.{start_flow_at}
use Rattle.duals.specs.Terms.{AreTerms}
use Rattle.duals.proofs.readings.start_flows_of.Given as goal

abbrev pub invariant-loop-start : goal.invariant-loop-start
invariant-loop-start l = AreTerms (start_flow_at l.fn.net) l.start l.flows.items
