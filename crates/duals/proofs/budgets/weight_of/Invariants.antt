use Rattle.std.proofs.Common.{pos, ◌*ℤ◌}
use Rattle.bud_base.specs.Paths.{item_at}
use Rattle.bud_flow.specs.Sums.{number_at}
use Rattle.duals.specs.Terms.{IsSmallTotal}
use Rattle.duals.proofs.budgets.weight_of.Given as goal

abbrev pub invariant-loop-i : goal.invariant-loop-i
invariant-loop-i l = IsSmallTotal (λ i. pos (item_at l.fn.items i).weight *ℤ number_at l.fn.budgets i) l.i l.total
