-- Setup checks from the greatest of the entries for each edge.
use Rattle.std.specs.Prelude.{◌≡◌, ℕ, ◌<◌, ◌&&◌, not, Bool, true, false, List, length, map, flat_map, filter_map, Option, Some, None, if◌then◌else◌}
use Rattle.bud_syntax.specs.declared.edges.Edge.{Edge}
use Rattle.bud_syntax.specs.declared.edges.Edge.TheVariants.{Rise, Fall}
use Rattle.bud_design.specs.declared.timings.Check.{Check}
use Rattle.registers.specs.Registers.{both_or, is_data_pin}
use Rattle.registers.specs.Marks.{mark_at}
use Rattle.registers.specs.declared.entries.Setup.{Setup}
use Rattle.registers.specs.declared.register_marks.RegisterMarks.{RegisterMarks}
use Rattle.registers.specs.declared.tables.Valued.{Valued}

abbrev pub is_fall : Edge → Bool
is_fall Rise = false
is_fall Fall = true

abbrev pub edge_of : Bool → Edge
edge_of false = Rise
edge_of true = Fall

abbrev pub setup_value : Setup → Edge → Valued
setup_value s edge = record { first = s.pin; second = s.clock; falls = is_fall edge; value = s.value }

-- the values of a check at each edge that it counts for
abbrev pub values_of_setup : Setup → List Valued
values_of_setup s = map (setup_value s) (both_or s.edge)

abbrev pub check_by : Bool → Valued → Option Check
check_by here e = if here then Some (record { pin = e.first; clock = e.second; edge = edge_of e.falls; amount = e.value }) else None

-- the check at a data pin
abbrev pub check_of : List Setup → Valued → Option Check
check_of setups e = check_by (is_data_pin setups e.first.0) e

-- the same by the marks
abbrev pub marked_check : RegisterMarks → Valued → Option Check
marked_check m e = check_by (mark_at m.checked.items e.first.0 && not (mark_at m.clocks.items e.first.0)) e

pub record HasCheckRoom (m : RegisterMarks) (e : Valued) : Type 0 where
  pub checked : e.first.0 < length m.checked.items
  pub clock : e.first.0 < length m.clocks.items
