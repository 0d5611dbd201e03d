use Rattle.std.proofs.Common.{ℕ, ◌<◌}
use Rattle.bud_design.proofs.NameLaws.{IsShort}
use Rattle.bud_design.specs.Designs.{pin_at}
use Rattle.budget_plans.proofs.layouts.short_bits.Given as goal

-- those of the pins so far
abbrev pub invariant-loop-number : goal.invariant-loop-number
invariant-loop-number l = (k : ℕ) → k < l.number → IsShort (pin_at l.pins k).bit
