use Rattle.std.proofs.Common.{◌≡◌, ◌≤◌, ◌+◌, length}
use Rattle.residual.specs.Walks.{IsSpreading, unmarked_count}
use Rattle.residual.proofs.walks.spread.Given as goal

abbrev pub invariant-arcs : goal.invariant-arcs
invariant-arcs l = (l.first ≤ l.arc) × (l.arc ≤ length l.arcs) × IsSpreading l.arcs l.flows l.first l.root.0 l.ways l.before l.place l.arc
    × (l.place + unmarked_count l.ways ≡ l.before + unmarked_count l.fn.ways) × (length l.ways ≡ length l.fn.ways)

abbrev pub decreases-arcs : goal.decreases-arcs
decreases-arcs l = l.arc
