-- What the objects of timing commands stand for in a design below a root, and the refusals of objects.
use Rattle.std.specs.Prelude.{ℕ, ◌==◌, ◌&&◌, ◌||◌, not, Bool, true, false, List, [], ◌∷◌, map, length, filter, flat_map, codes, ok_or, Option, Some, Ok, Err, if◌then◌else◌}
use Rattle.std.specs.List.{list_any, list_all, range_with_len}
use Rattle.std.specs.Option.{option_or, option_map}
use Rattle.bud_base.specs.declared.ids.PinId.{PinId}
use Rattle.bud_syntax.specs.declared.constraints.Object.{Object}
use Rattle.bud_syntax.specs.declared.constraints.Object.TheVariants.{Ports, Pins, Cells, Clocks, Any, AllInputs, AllOutputs, AllClocks}
use Rattle.bud_design.specs.declared.clocks.Clock.{Clock}
use Rattle.bud_design.specs.declared.clocks.Marks.{Marks}
use Rattle.bud_design.specs.declared.timings.Timing.{Timing}
use Rattle.bud_design.specs.Arcs.{is_clocked}
use Rattle.bud_design.specs.Clocks.{clock_called}
use Rattle.bud_design.specs.Designs.{Design, place_at, pin_at, bits_of, named_pins, named_cells, named_ports, input_bits, output_bits, is_input, is_output}
use Rattle.bud_design.specs.Names.{meaning}
use Rattle.timing_objects.specs.declared.faults.ResolveFault.{ResolveFault}
use Rattle.timing_objects.specs.declared.faults.ResolveFault.TheVariants.{UnknownObject, UnknownClock, NotASource, NotAStart, NotAnEnd, NotAPin, ClockTwice}
use Rattle.timing_objects.specs.declared.things.Role.{Role}
use Rattle.timing_objects.specs.declared.things.Role.TheVariants.{Source, Input, Output, Start, End, Through}
use Rattle.timing_objects.specs.declared.things.Thing.{Thing}
use Rattle.timing_objects.specs.declared.things.Thing.TheVariants as thing
use Rattle.timing_objects.specs.Answers.{Answer, ◌>>=◌}

-- a design below a root, with its checks and launch edges
pub record Subject : Type 0 where
  pub design : Design
  pub root : ℕ
  pub timing : Timing

abbrev pub a_pin : ℕ → Thing
a_pin v = thing.Pin (record { 0 = v })

-- what a name means as a clock, by the clocks made so far, as a port, as a cell and as a pin
abbrev pub clock_named : List Clock → List ℕ → Option (List Thing)
clock_named clocks name = option_map (λ c. thing.Clock c ∷ []) (clock_called clocks name)

abbrev pub port_named : Subject → List ℕ → Option (List Thing)
port_named s name = option_map (map a_pin) (meaning (named_ports s.design s.root) name)

abbrev pub cell_named : Subject → List ℕ → Option (List Thing)
cell_named s name = option_map (λ p. thing.Cell p ∷ []) (meaning (named_cells s.design s.root) name)

abbrev pub pin_named : Subject → List ℕ → Option (List Thing)
pin_named s name = option_map (λ v. a_pin v ∷ []) (meaning (named_pins s.design s.root) name)

-- a bare name: a port in commands on ports; the first of clock, port, cell and pin in a from-part or to-part; the first of port and pin in a group
abbrev pub bare_part : Subject → List Clock → List ℕ → Option (List Thing)
bare_part s clocks name = option_or (clock_named clocks name) (option_or (port_named s name) (option_or (cell_named s name) (pin_named s name)))

abbrev pub bare_named : Subject → Role → List Clock → List ℕ → Option (List Thing)
bare_named s Source clocks name = port_named s name
bare_named s Input clocks name = port_named s name
bare_named s Output clocks name = port_named s name
bare_named s Start clocks name = bare_part s clocks name
bare_named s End clocks name = bare_part s clocks name
bare_named s Through clocks name = option_or (port_named s name) (pin_named s name)

-- the name in an object, or the word of one that names all
abbrev pub object_text : Object → List ℕ
object_text (Ports name) = name
object_text (Pins name) = name
object_text (Cells name) = name
object_text (Clocks name) = name
object_text (Any name) = name
object_text AllInputs = codes "all_inputs"
object_text AllOutputs = codes "all_outputs"
object_text AllClocks = codes "all_clocks"

-- what an object stands for, by the clocks made so far, or that there is no such thing
abbrev pub meant : Subject → Role → List Clock → Object → Option (List Thing)
meant s role clocks (Ports name) = port_named s name
meant s role clocks (Pins name) = pin_named s name
meant s role clocks (Cells name) = cell_named s name
meant s role clocks (Clocks name) = clock_named clocks name
meant s role clocks (Any name) = bare_named s role clocks name
meant s role clocks AllInputs = Some (map a_pin (input_bits s.design s.root))
meant s role clocks AllOutputs = Some (map a_pin (output_bits s.design s.root))
meant s role clocks AllClocks = Some (map (λ c. thing.Clock c) (range_with_len 0 (length clocks)))

abbrev pub unknown : Object → ResolveFault
unknown (Ports name) = UnknownObject name
unknown (Pins name) = UnknownObject name
unknown (Cells name) = UnknownObject name
unknown (Clocks name) = UnknownClock name
unknown (Any name) = UnknownObject name
unknown AllInputs = UnknownObject (object_text AllInputs)
unknown AllOutputs = UnknownObject (object_text AllOutputs)
unknown AllClocks = UnknownObject (object_text AllClocks)

abbrev pub is_input_bit : Subject → ℕ → Bool
is_input_bit s v = (pin_at s.design.pins v).place == s.root && is_input (pin_at s.design.pins v).dir

abbrev pub is_output_bit : Subject → ℕ → Bool
is_output_bit s v = (pin_at s.design.pins v).place == s.root && is_output (pin_at s.design.pins v).dir

-- an input port bit or an output pin of a leaf
abbrev pub is_source_pin : Subject → ℕ → Bool
is_source_pin s v = is_input_bit s v || ((place_at s.design.places (pin_at s.design.pins v).place).leaf && is_output (pin_at s.design.pins v).dir)

abbrev pub is_checked : Timing → ℕ → Bool
is_checked t v = list_any (λ x. x.pin.0 == v) t.checks

-- a leaf with a setup check has a clock pin
abbrev pub is_register_place : Subject → ℕ → Bool
is_register_place s p = list_any (is_clocked s.timing) (bits_of s.design p)

-- what may be a source, a port with a delay, and what a from-part, a to-part and a group may name
abbrev pub pin_may_be : Subject → Role → ℕ → Bool
pin_may_be s Source v = is_source_pin s v
pin_may_be s Input v = is_input_bit s v
pin_may_be s Output v = is_output_bit s v
pin_may_be s Start v = is_input_bit s v || is_clocked s.timing v
pin_may_be s End v = is_output_bit s v || is_checked s.timing v
pin_may_be s Through v = true

abbrev pub is_part : Role → Bool
is_part Source = false
is_part Input = false
is_part Output = false
is_part Start = true
is_part End = true
is_part Through = false

abbrev pub may_be : Subject → Role → Thing → Bool
may_be s role (thing.Pin v) = pin_may_be s role v.0
may_be s role (thing.Cell p) = is_part role && is_register_place s p
may_be s role (thing.Clock c) = is_part role

abbrev pub misfit : Role → List ℕ → ResolveFault
misfit Source name = NotASource name
misfit Input name = NotAStart name
misfit Output name = NotAnEnd name
misfit Start name = NotAStart name
misfit End name = NotAnEnd name
misfit Through name = NotAPin name

-- the things, where each is of the kind
abbrev pub judged : (Thing → Bool) → ResolveFault → List Thing → Answer (List Thing)
judged test fault things = if list_all test things then Ok things else Err fault

-- a clock that was made before has this pin as a source
abbrev pub has_source : List Clock → Thing → Bool
has_source clocks (thing.Pin v) = list_any (λ c. list_any (λ p. p.0 == v.0) c.sources) clocks
has_source clocks (thing.Cell p) = false
has_source clocks (thing.Clock c) = false

-- a source of a clock that was made before is a source of no other
abbrev pub is_free : Role → List Clock → Thing → Bool
is_free Source clocks x = not (has_source clocks x)
is_free Input clocks x = true
is_free Output clocks x = true
is_free Start clocks x = true
is_free End clocks x = true
is_free Through clocks x = true

-- the things that an object gives a command that names it so
abbrev pub things_in : Subject → Role → List Clock → Object → Answer (List Thing)
things_in s role clocks o = do
  things ← ok_or (meant s role clocks o) (unknown o)
  things ← judged (may_be s role) (misfit role (object_text o)) things
  judged (is_free role clocks) (ClockTwice (object_text o)) things

-- a cell of a from-part stands for its clock pins, one of a to-part for its data pins
abbrev pub is_meant_by_cell : Subject → Role → ℕ → Bool
is_meant_by_cell s Source v = false
is_meant_by_cell s Input v = false
is_meant_by_cell s Output v = false
is_meant_by_cell s Start v = is_clocked s.timing v
is_meant_by_cell s End v = is_checked s.timing v
is_meant_by_cell s Through v = false

abbrev pub pins_of_cell : Subject → Role → ℕ → List ℕ
pins_of_cell s role p = filter (is_meant_by_cell s role) (bits_of s.design p)

abbrev pub pins_in : Subject → Role → Thing → List PinId
pins_in s role (thing.Pin v) = v ∷ []
pins_in s role (thing.Cell p) = map (λ v. record { 0 = v }) (pins_of_cell s role p)
pins_in s role (thing.Clock c) = []

abbrev pub clocks_in : Thing → List ℕ
clocks_in (thing.Pin v) = []
clocks_in (thing.Cell p) = []
clocks_in (thing.Clock c) = c ∷ []

-- the pins and clocks that things name, a cell by its pins
abbrev pub marks_of : Subject → Role → List Thing → Marks
marks_of s role things = record { pins = flat_map (pins_in s role) things; clocks = flat_map clocks_in things }
