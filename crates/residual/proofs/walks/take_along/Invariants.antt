use Rattle.residual.specs.Walks.{rank_at, AreTakenOff}
use Rattle.residual.proofs.walks.take_along.Given as goal

abbrev pub invariant-walk : goal.invariant-walk
invariant-walk l = AreTakenOff l.arcs l.root.0 l.fn.flows l.flows l.ways l.fn.node.0 l.amount l.at.0

abbrev pub decreases-walk : goal.decreases-walk
decreases-walk l = rank_at l.ways l.at.0
