use Rattle.residual.specs.Networks.{item_flow_at}
use Rattle.duals.specs.Terms.{AreTerms}
use Rattle.duals.proofs.readings.item_flows_of.Given as goal

abbrev pub invariant-loop-item : goal.invariant-loop-item
invariant-loop-item l = AreTerms (item_flow_at l.fn.net) l.item l.flows.items
