use Rattle.bud_base.specs.Paths.{start_at}
use Rattle.residual.specs.Arcs.{start_arc}
use Rattle.residual.specs.Comparisons.{AreFrom}
use Rattle.residual.proofs.comparisons.are_starts.Given as goal

abbrev pub invariant-loop-s : goal.invariant-loop-s
invariant-loop-s l = AreFrom l.arcs l.first l.s (λ i. start_arc l.root.0 (start_at l.starts i))
