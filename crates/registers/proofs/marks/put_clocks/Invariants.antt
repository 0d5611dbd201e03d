use Rattle.std.proofs.Common.{◌≡◌, ◌≤◌, ◌==◌, ℕ, length, drop}
use Rattle.std.specs.List.{list_any}
use Rattle.registers.specs.Marks.{mark_at}
use Rattle.registers.proofs.marks.put_clocks.Given as goal

abbrev pub invariant-loop-low : goal.invariant-loop-low
invariant-loop-low l =
    (l.low ≤ length l.setups) × (length l.marks ≡ length l.fn.marks)
    × ((v : ℕ) → mark_at l.marks v ≡ list_any (λ s. s.clock.0 == v) (drop l.low l.setups))

abbrev pub decreases-loop-low : goal.decreases-loop-low
decreases-loop-low l = l.low
