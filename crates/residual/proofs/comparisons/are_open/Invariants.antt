use Rattle.bud_base.specs.Paths.{item_at}
use Rattle.residual.specs.Arcs.{open_arc}
use Rattle.residual.specs.Comparisons.{AreFrom}
use Rattle.residual.proofs.comparisons.are_open.Given as goal

abbrev pub invariant-loop-i : goal.invariant-loop-i
invariant-loop-i l = AreFrom l.arcs l.first l.i (λ i. open_arc (item_at l.items i))
