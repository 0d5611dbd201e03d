use Rattle.bud_base.specs.Paths.{end_at}
use Rattle.residual.specs.Arcs.{end_arc}
use Rattle.residual.specs.Comparisons.{AreFrom}
use Rattle.residual.proofs.comparisons.are_ends.Given as goal

abbrev pub invariant-loop-e : goal.invariant-loop-e
invariant-loop-e l = AreFrom l.arcs l.first l.e (λ i. end_arc l.root.0 (end_at l.ends i))
