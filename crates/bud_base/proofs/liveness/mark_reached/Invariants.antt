use Rattle.bud_base.proofs.ReachLemmas.{IsSpread}
use Rattle.bud_base.proofs.liveness.mark_reached.Given as goal

abbrev pub invariant-loop-node : goal.invariant-loop-node
invariant-loop-node l = IsSpread l.problem l.order.order l.marks l.node-index
