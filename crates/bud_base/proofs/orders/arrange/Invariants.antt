use Rattle.std.proofs.Common.{◌≡◌, ℕ, ◌<◌}
use Rattle.bud_base.specs.Searches.{mark_at, IsArranged}
use Rattle.bud_base.specs.declared.orders.Mark.TheVariants.{New}
use Rattle.bud_base.proofs.orders.arrange.Given as goal

abbrev pub invariant-loop-root : goal.invariant-loop-root
invariant-loop-root l = IsArranged l.items l.marks l.order l.free × ((n : ℕ) → n < l.root → mark_at l.marks n ≡ New → ⊥)
