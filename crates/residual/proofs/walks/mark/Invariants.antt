use Rattle.std.proofs.Common.{◌≡◌, ◌≤◌, ◌+◌, length}
use Rattle.residual.specs.Walks.{AreWays, HaveFlow, unmarked_count}
use Rattle.residual.proofs.walks.mark.Given as goal

abbrev pub invariant-passes : goal.invariant-passes
invariant-passes l = AreWays l.arcs l.first l.root.0 l.ways l.place × HaveFlow l.flows l.ways × (l.place + unmarked_count l.ways ≤ length l.ways) × (length l.ways ≡ length l.fn.ways)

abbrev pub decreases-passes : goal.decreases-passes
decreases-passes l = unmarked_count l.ways
