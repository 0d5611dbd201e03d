-- Refusals of registers by the marks of pins and instances.
use Rattle.std.specs.Prelude.{◌≡◌, ℕ, ◌==◌, ◌&&◌, not, Bool, true, false, List, length, filter, Option, Some, None, slice_index_or, slice_set, if◌then◌else◌}
use Rattle.std.specs.List.{list_any, range_with_len}
use Rattle.std.specs.Option.{option_or}
use Rattle.bud_design.specs.declared.designs.Pin.{Pin}
use Rattle.bud_design.specs.Designs.{pin_at}
use Rattle.bud_design.specs.Lists.{first_some}
use Rattle.registers.specs.Registers.{unless_one}
use Rattle.registers.specs.Marks.{mark_at}
use Rattle.registers.specs.Launches.{marked_edge}
use Rattle.registers.specs.declared.entries.Through.{Through}
use Rattle.registers.specs.declared.faults.RegisterFault.{RegisterFault}
use Rattle.registers.specs.declared.faults.RegisterFault.TheVariants.{Latch}
use Rattle.registers.specs.declared.register_marks.RegisterMarks.{RegisterMarks}

-- the refusal of a clock pin
abbrev pub marked_mixed : RegisterMarks → ℕ → Option RegisterFault
marked_mixed m v = if mark_at m.clocks.items v then unless_one v (marked_edge m v) else None

abbrev pub fault_at : List (Option RegisterFault) → ℕ → Option RegisterFault
fault_at faults p = slice_index_or faults p None

-- the first refusal of so many pins, from number `low` on, that belong to the instance
abbrev pub first_mixed : List Pin → RegisterMarks → ℕ → ℕ → ℕ → Option RegisterFault
first_mixed pins m low left p = first_some (marked_mixed m) (filter (λ v. (pin_at pins v).place == p) (range_with_len low left))

-- the delay leaves a data pin of the instance
abbrev pub marked_latch : List Pin → RegisterMarks → ℕ → Through → Bool
marked_latch pins m p t = (pin_at pins t.from.0).place == p && (mark_at m.checked.items t.from.0 && not (mark_at m.clocks.items t.from.0))

abbrev pub latch_by : Bool → ℕ → Option RegisterFault
latch_by here p = if here then Some (Latch p) else None

-- the refusal of an instance
abbrev pub fault_of : List (Option RegisterFault) → List Bool → ℕ → Option RegisterFault
fault_of faults latches p = option_or (fault_at faults p) (latch_by (mark_at latches p) p)

-- the refusals with one more, where there is one
abbrev pub put_fault : List (Option RegisterFault) → ℕ → Option RegisterFault → List (Option RegisterFault)
put_fault faults p None = faults
put_fault faults p (Some fault) = slice_set faults p (Some fault)
