-- The objects of a flat design by kind: their numbers, their names, and the keys that tables have them by.
use Rattle.std.specs.Prelude.{ℕ, ◌-◌, Bool, List, length, filter, find, Option}
use Rattle.std.specs.List.{range_with_len}
use Rattle.std.specs.Option.{option_or}
use Rattle.std.specs.Str.{bytes_eq}
use Rattle.bud_design.specs.Designs.{Design, place_name, pin_name}
use Rattle.bud_design.specs.Lists.{only}
use Rattle.bud_design.specs.Names.{plain}
use Rattle.flat_design.specs.Flats.{IsFlat}
use Rattle.flat_design.specs.Fronts.{formed}
use Rattle.flat_design.specs.declared.kinds.Kind.{Kind}
use Rattle.flat_design.specs.declared.kinds.Kind.TheVariants.{Bits, Instances}
use Rattle.flat_design.specs.declared.texts.Form.{Form}
use Rattle.flat_design.specs.declared.texts.Form.TheVariants.{Printed, Plain}
use Rattle.name_tables.specs.ChainLists.{ChainLists}
use Rattle.name_tables.specs.Chained.{AreChained}
use Rattle.name_tables.specs.Keys.{key_of}

-- the first number of an object of the kind, and the first number that none has
abbrev pub low_of : Kind → ℕ
low_of Bits = 0
low_of Instances = 1

abbrev pub count_of : Kind → Design → ℕ
count_of Bits d = length d.pins
count_of Instances d = length d.places

-- the printed name of an object
abbrev pub name_at : Kind → Design → ℕ → List ℕ
name_at Bits d v = pin_name d 0 v
name_at Instances d p = place_name d.places 0 p

-- the object has this name in this form
abbrev pub has_name : Kind → Form → Design → List ℕ → ℕ → Bool
has_name kind form d name v = bytes_eq (formed form (name_at kind d v)) name

-- the first object from a number on that has the name
abbrev pub named_from : Kind → Form → Design → List ℕ → ℕ → Option ℕ
named_from kind form d name k = find (has_name kind form d name) (range_with_len k (count_of kind d - k))

-- what a name means among the objects of a kind
abbrev pub meant : Kind → Design → List ℕ → Option ℕ
meant kind d name =
    option_or (named_from kind Printed d name (low_of kind))
    (only (filter (has_name kind Plain d name) (range_with_len (low_of kind) (count_of kind d - low_of kind))))

-- an object's key is that of its plain name
abbrev pub keyed : Kind → Design → ℕ → ℕ
keyed kind d v = key_of (plain (name_at kind d v))

-- the key of the objects that have a name in this form
abbrev pub name_key : Form → List ℕ → ℕ
name_key Printed name = key_of (plain name)
name_key Plain name = key_of name

-- a flat design, and chains of its objects by their keys
pub record HasTables (d : Design) (bits instances : ChainLists) : Type 0 where
  pub flat : IsFlat d
  pub of_bits : AreChained (keyed Bits d) 0 (length d.pins) bits
  pub of_instances : AreChained (keyed Instances d) 1 (length d.places) instances
