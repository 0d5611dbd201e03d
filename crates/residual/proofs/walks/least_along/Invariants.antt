use Rattle.residual.specs.Walks.{rank_at}
use Rattle.residual.proofs.Walking.{IsLeastAlong}
use Rattle.residual.proofs.walks.least_along.Given as goal

abbrev pub invariant-walk : goal.invariant-walk
invariant-walk l = IsLeastAlong l.arcs l.flows l.ways l.root.0 l.fn.node.0 l.most l.least l.at.0

abbrev pub decreases-walk : goal.decreases-walk
decreases-walk l = rank_at l.ways l.at.0
