use Rattle.std.proofs.Common.{◌≡◌, ◌≤◌, ℕ, length, drop}
use Rattle.std.specs.List.{list_any}
use Rattle.registers.specs.FaultLists.{marked_latch}
use Rattle.registers.specs.Marks.{mark_at}
use Rattle.registers.proofs.register_faults.put_latches.Given as goal

abbrev pub invariant-loop-low : goal.invariant-loop-low
invariant-loop-low l =
    (l.low ≤ length l.throughs) × (length l.latches ≡ length l.fn.latches)
    × ((p : ℕ) → mark_at l.latches p ≡ list_any (marked_latch l.pins l.marks p) (drop l.low l.throughs))

abbrev pub decreases-loop-low : goal.decreases-loop-low
decreases-loop-low l = l.low
