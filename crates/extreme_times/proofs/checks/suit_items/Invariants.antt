use Rattle.std.proofs.Common.{ℕ, ◌<◌, ◌+ℤ◌, ◌≤ℤ◌}
use Rattle.bud_base.specs.Paths.{item_at}
use Rattle.bud_flow.specs.Sums.{number_at}
use Rattle.extreme_times.proofs.checks.suit_items.Given as goal

abbrev pub invariant-loop-item : goal.invariant-loop-item
invariant-loop-item l =
    (i : ℕ) → i < l.item-index → (number_at l.times (item_at l.items i).from.0 +ℤ (item_at l.items i).least) ≤ℤ number_at l.times (item_at l.items i).to.0
