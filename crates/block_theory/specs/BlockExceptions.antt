-- The exceptions of a block's file: paths between classes are false, and each exception of the top in its real and its virtual forms.
use Rattle.std.specs.Prelude.{ℕ, ◌==◌, ◌&&◌, ◌||◌, not, Bool, true, false, List, [], ◌∷◌, ◌++◌, map, length, filter, flat_map, Option, Some, None, if◌then◌else◌}
use Rattle.std.specs.List.{list_any, range_with_len}
use Rattle.bud_syntax.specs.declared.constraints.Object.{Object}
use Rattle.bud_syntax.specs.declared.constraints.SdcCommand.{SdcCommand}
use Rattle.bud_syntax.specs.declared.constraints.SdcCommand.TheVariants as command
use Rattle.bud_design.specs.declared.clocks.Launch.{Launch}
use Rattle.bud_design.specs.declared.clocks.Marks.{Marks}
use Rattle.bud_design.specs.declared.clocks.Exception.{Exception}
use Rattle.bud_design.specs.declared.clocks.ExceptionKind.{ExceptionKind}
use Rattle.bud_design.specs.declared.clocks.ExceptionKind.TheVariants.{FalsePath, Multicycle, MaxDelay}
use Rattle.bud_design.specs.declared.clocks.Constraints.{Constraints}
use Rattle.bud_design.specs.declared.layers.Met.{Met}
use Rattle.bud_design.specs.declared.layers.Class.{Class}
use Rattle.bud_design.specs.Arcs.{is_clocked}
use Rattle.bud_design.specs.Exceptions.{has_pin, has_clock, has_met, class_of}
use Rattle.bud_design.specs.Layers.{class_number}
use Rattle.bud_design.specs.Orders.{same_edge}
use Rattle.timing_objects.specs.Objects.{is_checked}
use Rattle.block_theory.specs.BlockClocks.{pin_objects, real_clocks, real_objects, virtual_objects}
use Rattle.block_theory.specs.BlockPorts.{Context, pins_where, input_classes, output_classes}

-- a part of an exception in the file: pins of the block, real clocks, and classes by their virtual clocks
pub record Part : Type 0 where
  pub pins : List ℕ
  pub reals : List ℕ
  pub virtuals : List ℕ

abbrev pub is_empty_list : List ℕ → Bool
is_empty_list [] = true
is_empty_list (n ∷ ns) = false

abbrev pub is_empty_part : Part → Bool
is_empty_part p = is_empty_list p.pins && (is_empty_list p.reals && is_empty_list p.virtuals)

abbrev pub pins_part : List ℕ → Part
pins_part vs = record { pins = vs; reals = []; virtuals = [] }

abbrev pub virtual_part : List ℕ → Part
virtual_part ks = record { pins = []; reals = []; virtuals = ks }

-- an exception of the file
pub record Form : Type 0 where
  pub kind : ExceptionKind
  pub from : Part
  pub to : Part

-- none where a part would be empty
abbrev pub form_of : ExceptionKind → Part → Part → List Form
form_of kind from to = if is_empty_part from || is_empty_part to then [] else record { kind = kind; from = from; to = to } ∷ []

-- the classes with an output delay, but one
abbrev pub other_outputs : Context → ℕ → List ℕ
other_outputs x k = filter (λ j. not (j == k)) (output_classes x)

-- a path from an input to an output of another class is false
abbrev pub between_classes : Context → List Form
between_classes x = flat_map (λ k. form_of FalsePath (virtual_part (k ∷ [])) (virtual_part (other_outputs x k))) (input_classes x)

-- classes are the same by clock, edge, exceptions and steps
abbrev pub same_met : List Met → List Met → Bool
same_met [] [] = true
same_met [] (m ∷ ms) = false
same_met (l ∷ ls) [] = false
same_met (l ∷ ls) (m ∷ ms) = l.number == m.number && (l.steps == m.steps && same_met ls ms)

abbrev pub same_class : Class → Class → Bool
same_class j k = j.clock == k.clock && (same_edge j.edge k.edge && same_met j.exceptions k.exceptions)

-- the class in which paths from a launch begin
abbrev pub own_class : Constraints → Launch → Class
own_class all l = class_of all l (l.pin.0 ∷ [])

-- a launch at the pin begins in a class that is such
abbrev pub begins_in : Constraints → (Class → Bool) → ℕ → Bool
begins_in all is_such v = list_any (λ l. l.pin.0 == v && is_such (own_class all l)) all.launches

abbrev pub is_live : Context → Class → Bool
is_live x k = list_any (same_class k) x.layered.classes

-- the clock pins in the block that launch in a class that is such
abbrev pub clock_pins_in : Context → (Class → Bool) → List ℕ
clock_pins_in x is_such = pins_where x (λ v. is_clocked x.timing v && begins_in x.all is_such v)

-- a path from a clock pin to an output of another class is false: by live class, and last the clock pins of all other classes
abbrev pub from_clock_pins : Context → List Form
from_clock_pins x =
    flat_map (λ k. form_of FalsePath (pins_part (clock_pins_in x (same_class (class_number x.layered.classes k)))) (virtual_part (other_outputs x k))) (range_with_len 0 (length x.layered.classes))
    ++ form_of FalsePath (pins_part (clock_pins_in x (λ k. not (is_live x k)))) (virtual_part (output_classes x))

-- what a part of an exception names in the block: pins that are such and real clocks, or where there is no part all real clocks
abbrev pub part_inside : Context → (ℕ → Bool) → Option Marks → Part
part_inside x is_such None = record { pins = []; reals = real_clocks x; virtuals = [] }
part_inside x is_such (Some marks) = record {
  pins = pins_where x (λ v. is_such v && has_pin marks.pins v);
  reals = filter (has_clock marks.clocks) (real_clocks x);
  virtuals = [];
}

abbrev pub starts_inside : Context → Exception → Part
starts_inside x e = part_inside x (is_clocked x.timing) e.from

abbrev pub ends_inside : Context → Exception → Part
ends_inside x e = part_inside x (is_checked x.timing) e.to

-- from the block's clock pins and real clocks, where the exception has no groups
abbrev pub real_form : Context → Exception → List Form
real_form x e = if length e.groups == 0 then form_of e.kind (starts_inside x e) (ends_inside x e) else []

-- from a virtual clock, where its class has met all of the exception's groups
abbrev pub virtual_form : Context → Exception → ℕ → List Form
virtual_form x e k =
    if has_met (class_number x.layered.classes k) e then form_of e.kind (virtual_part (k ∷ [])) (ends_inside x e) else []

abbrev pub forms_of : Context → Exception → List Form
forms_of x e = real_form x e ++ flat_map (virtual_form x e) (input_classes x)

-- in order of number
abbrev pub block_forms : Context → List Form
block_forms x = between_classes x ++ (from_clock_pins x ++ flat_map (forms_of x) x.all.exceptions)

-- as commands, a part by the names of its objects
abbrev pub part_objects : Context → Part → List Object
part_objects x p = pin_objects x p.pins ++ (real_objects x p.reals ++ virtual_objects x p.virtuals)

abbrev pub command_of : ExceptionKind → List Object → List Object → SdcCommand
command_of FalsePath from to = command.FalsePath true (Some from) [] (Some to)
command_of (Multicycle n by_launch) from to = command.Multicycle n true by_launch (Some from) [] (Some to)
command_of (MaxDelay amount) from to = command.MaxDelay amount (Some from) [] (Some to)

abbrev pub form_command : Context → Form → SdcCommand
form_command x f = command_of f.kind (part_objects x f.from) (part_objects x f.to)

abbrev pub exception_commands : Context → List SdcCommand
exception_commands x = map (form_command x) (block_forms x)
