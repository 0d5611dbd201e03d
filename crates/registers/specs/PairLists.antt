-- Pairs of pins from the greatest of delays through leaves.
use Rattle.std.specs.Prelude.{◌≡◌, ℕ, ◌<◌, length, ◌&&◌, ◌||◌, not, Bool, true, false, List, map, filter_map, Option, Some, None, if◌then◌else◌}
use Rattle.bud_design.specs.declared.designs.Pin.{Pin}
use Rattle.bud_design.specs.declared.timings.Pair.{Pair}
use Rattle.bud_design.specs.Designs.{Design, pin_at}
use Rattle.registers.specs.Registers.{pin_place, is_counted, is_register}
use Rattle.registers.specs.Marks.{mark_at}
use Rattle.registers.specs.declared.entries.Through.{Through}
use Rattle.registers.specs.declared.entries.Setup.{Setup}
use Rattle.registers.specs.declared.register_marks.RegisterMarks.{RegisterMarks}
use Rattle.registers.specs.declared.tables.Valued.{Valued}

abbrev pub through_value : Through → Valued
through_value t = record { first = t.from; second = t.to; falls = false; value = t.value }

abbrev pub pair_by : Bool → Bool → Valued → Option Pair
pair_by counted launch e = if counted then Some (record { from = e.first; to = e.second; value = e.value; launch = launch }) else None

-- the pair of a counted delay
abbrev pub pair_of : Design → List Setup → Valued → Option Pair
pair_of d setups e = pair_by (is_counted d setups e.first.0) (is_register d setups (pin_place d e.first.0)) e

abbrev pub marked_register : List Pin → RegisterMarks → ℕ → Bool
marked_register pins m v = mark_at m.registers.items (pin_at pins v).place

-- the same by the marks
abbrev pub marked_pair : List Pin → RegisterMarks → Valued → Option Pair
marked_pair pins m e = pair_by (not (marked_register pins m e.first.0) || mark_at m.clocks.items e.first.0) (marked_register pins m e.first.0) e

-- the pair of pins of a delay that isn't counted
abbrev pub left_of : Design → List Setup → Valued → Option (ℕ × ℕ)
left_of d setups e = if is_counted d setups e.first.0 then None else Some (e.first.0, e.second.0)

-- the delay's pins are pins, with marks
pub record HasRoom (pins : List Pin) (m : RegisterMarks) (e : Valued) : Type 0 where
  pub pin : e.first.0 < length pins
  pub clock : e.first.0 < length m.clocks.items
  pub place : (pin_at pins e.first.0).place < length m.registers.items
