use Rattle.std.proofs.Common.{◌≡◌, ◌≤◌, ◌==◌, ℕ, length, drop}
use Rattle.std.specs.List.{list_any}
use Rattle.bud_design.specs.Designs.{pin_at}
use Rattle.registers.specs.Marks.{mark_at}
use Rattle.registers.proofs.marks.put_registers.Given as goal

abbrev pub invariant-loop-low : goal.invariant-loop-low
invariant-loop-low l =
    (l.low ≤ length l.setups) × (length l.marks ≡ length l.fn.marks)
    × ((p : ℕ) → mark_at l.marks p ≡ list_any (λ s. (pin_at l.pins s.clock.0).place == p) (drop l.low l.setups))

abbrev pub decreases-loop-low : goal.decreases-loop-low
decreases-loop-low l = l.low
