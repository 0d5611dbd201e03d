use Rattle.std.proofs.Common.{◌≡◌, ℕ, ◌<◌}
use Rattle.bud_base.specs.Searches.{mark_at}
use Rattle.bud_base.specs.declared.orders.Mark.TheVariants.{New}
use Rattle.bud_base.proofs.orders.clear.Given as goal

abbrev pub invariant-loop-mark : goal.invariant-loop-mark
invariant-loop-mark l = (n : ℕ) → n < l.mark-index → mark_at l.marks n ≡ New
