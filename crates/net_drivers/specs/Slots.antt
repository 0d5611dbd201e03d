-- What drives net bits that have numbers.
use Rattle.std.specs.Prelude.{◌≡◌, ℕ, zero, suc, ◌+◌, ◌<◌, Bool, true, false, List, [], ◌∷◌, ◌++◌, length, Option, Some, None, slice_index_or, slice_set, All, if◌then◌else◌}
use Rattle.bud_syntax.specs.declared.modules.Dir.{Dir}
use Rattle.bud_syntax.specs.declared.modules.Dir.TheVariants.{Input, Output, Inout}
use Rattle.bud_syntax.specs.declared.modules.NetDecl.{NetDecl}
use Rattle.module_nets.specs.Numbers.{range_width}
use Rattle.bud_design.specs.Designs.{is_input, is_output}
use Rattle.net_drivers.specs.Drivers.{local_pin}
use Rattle.net_drivers.specs.Covers.{covered}
use Rattle.net_drivers.specs.declared.covers.Ends.{Ends}
use Rattle.net_drivers.specs.declared.slots.Joint.{Joint}
use Rattle.net_drivers.specs.declared.slots.Slot.{Slot}
use Rattle.net_drivers.specs.declared.slots.Slot.TheVariants.{Free, Pin, Constant, Assigned}

abbrev pub is_free : Slot → Bool
is_free Free = true
is_free (Pin p) = false
is_free Constant = false
is_free (Assigned n) = false

abbrev pub slot_at : List Slot → ℕ → Slot
slot_at slots n = slice_index_or slots n Free

-- the first that drives a bit stays
abbrev pub put : ℕ → Slot → List Slot → List Slot
put n slot slots = if is_free (slot_at slots n) then slice_set slots n slot else slots

-- something drives a bit
pub record Put : Type 0 where
  pub bit : ℕ
  pub slot : Slot

abbrev pub filled : List Put → List Slot → List Slot
filled [] slots = slots
filled (p ∷ ps) slots = filled ps (put p.bit p.slot slots)

-- each of them is counted at its bit
abbrev pub counted : List Put → List Ends → List Ends
counted [] rows = rows
counted (p ∷ ps) rows = counted ps (covered p.bit (p.bit + 1) rows)

abbrev pub put_if : Bool → Option ℕ → Slot → List Put
put_if false n slot = []
put_if true None slot = []
put_if true (Some n) slot = record { bit = n; slot = slot } ∷ []

abbrev pub is_inout : Dir → Bool
is_inout Input = false
is_inout Output = false
is_inout Inout = true

abbrev pub is_dir : Dir → Dir → Bool
is_dir Input dir = is_input dir
is_dir Output dir = is_output dir
is_dir Inout dir = is_inout dir

-- the port bits of a direction drive the bits that they are joined to
abbrev pub pin_puts : Dir → Option ℕ → ℕ → List Joint → List Put
pin_puts meant instance k [] = []
pin_puts meant instance k (j ∷ js) = put_if (is_dir meant j.dir) j.bit (Pin (local_pin instance k)) ++ pin_puts meant instance (suc k) js

-- the bits from a first one on are constant
abbrev pub constant_bits : ℕ → ℕ → List Put
constant_bits first zero = []
constant_bits first (suc width) = record { bit = first; slot = Constant } ∷ constant_bits (first + 1) width

-- a constant net that begins at a bit
abbrev pub net_puts : ℕ → NetDecl → List Put
net_puts first n = if n.constant then constant_bits first (range_width n.range) else []

-- the constant ones of nets, the first of which begins at a bit
abbrev pub constant_puts : ℕ → List NetDecl → List Put
constant_puts first [] = []
constant_puts first (n ∷ ns) = net_puts first n ++ constant_puts (first + range_width n.range) ns

-- the bits of a left side are driven by those of the right side
abbrev pub assigned_puts : List (Option ℕ) → List (Option ℕ) → List Put
assigned_puts [] rights = []
assigned_puts (l ∷ ls) [] = []
assigned_puts (l ∷ ls) (r ∷ rs) = put_if true l (Assigned r) ++ assigned_puts ls rs

abbrev pub widths : List NetDecl → ℕ
widths [] = 0
widths (n ∷ ns) = range_width n.range + widths ns

abbrev pub IsBelow : ℕ → Option ℕ → Type 0
IsBelow count None = Unit {0}
IsBelow count (Some n) = n < count

-- what is joined has a number below the count of bits
abbrev pub BitsWithin : ℕ → List Joint → Type 0
BitsWithin count joints = All (λ j. IsBelow count j.bit) joints
