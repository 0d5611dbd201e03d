use Rattle.bud_base.specs.Paths.{item_at}
use Rattle.residual.specs.Arcs.{limited_arc}
use Rattle.residual.specs.Comparisons.{AreFrom}
use Rattle.residual.proofs.comparisons.are_limited.Given as goal

abbrev pub invariant-loop-i : goal.invariant-loop-i
invariant-loop-i l = AreFrom l.arcs 0 l.i (λ i. limited_arc (item_at l.items i))
