use Rattle.std.proofs.Common.{◌≡◌, ◌-◌, ◌≤◌, ℕ, length}
use Rattle.registers.specs.FaultLists.{fault_at, first_mixed}
use Rattle.registers.proofs.register_faults.put_mixed.Given as goal

abbrev pub invariant-loop-low : goal.invariant-loop-low
invariant-loop-low l =
    (l.low ≤ length l.pins) × (length l.faults ≡ length l.fn.faults)
    × ((p : ℕ) → fault_at l.faults p ≡ first_mixed l.pins l.marks l.low (length l.pins - l.low) p)

abbrev pub decreases-loop-low : goal.decreases-loop-low
decreases-loop-low l = l.low
