-- What every flat design keeps.
use Rattle.std.specs.Prelude.{◌≡◌, ℕ, ◌<◌, ◌≤◌, ◌&&◌, nat_le, nat_lt, ◌⊎◌, Bool, true, false, List, [], length, Option, Some, None, All, AllPairs}
use Rattle.std.specs.List.{list_all}
use Rattle.std.specs.Str.{bytes_eq}
use Rattle.bud_design.specs.declared.designs.Place.{Place}
use Rattle.bud_design.specs.declared.designs.Wire.{Wire}
use Rattle.bud_design.specs.Designs.{Design, place_at, pin_at, named_pins, named_cells, is_input, is_output}
use Rattle.bud_design.specs.Names.{Named, printed}

-- the top has no parent, and every other place has one of a lower number
abbrev pub HasParent : ℕ → Option ℕ → Type 0
HasParent p None = p ≡ 0
HasParent p (Some q) = q < p

abbrev pub Differ : List (Named ℕ) → Type 0
Differ objects = AllPairs (λ a b. bytes_eq a.name b.name ≡ false) objects

-- the pin is an input of the home, or an output of a place that stands in it
abbrev pub Drives : Design → ℕ → ℕ → Type 0
Drives d home v =
    ((pin_at d.pins v).place ≡ home × is_input (pin_at d.pins v).dir ≡ true)
    ⊎ ((place_at d.places (pin_at d.pins v).place).parent ≡ Some home × is_output (pin_at d.pins v).dir ≡ true)

-- the pin is an output of the home, or an input of a place that stands in it
abbrev pub IsLoad : Design → ℕ → ℕ → Type 0
IsLoad d home v =
    ((pin_at d.pins v).place ≡ home × is_output (pin_at d.pins v).dir ≡ true)
    ⊎ ((place_at d.places (pin_at d.pins v).place).parent ≡ Some home × is_input (pin_at d.pins v).dir ≡ true)

pub record IsWireIn (d : Design) (w : Wire) : Type 0 where
  pub from : w.from.0 < length d.pins
  pub to : w.to.0 < length d.pins
  pub home : w.home < length d.places
  pub holds : (place_at d.places w.home).leaf ≡ false
  pub drives : Drives d w.home w.from.0
  pub loads : IsLoad d w.home w.to.0

-- an identifier has a byte, and all are printable (IEEE 1364)
abbrev pub is_identifier : List ℕ → Bool
is_identifier name = nat_lt 0 (length name) && list_all (λ b. nat_le 33 b && nat_le b 126) name

-- a name is an identifier in printed form
pub record IsPrinted (name : List ℕ) : Type 0 where
  pub identifier : List ℕ
  pub is_such : is_identifier identifier ≡ true
  pub name_is : name ≡ printed identifier

-- a name is the printed form of some bytes
abbrev pub IsPrintedForm : List ℕ → Type 0
IsPrintedForm name = (bytes : List ℕ) × (name ≡ printed bytes)

-- as is the name of every place below the top
abbrev pub HasPrintedForm : Option ℕ → List ℕ → Type 0
HasPrintedForm None name = Unit {0}
HasPrintedForm (Some parent) name = IsPrintedForm name

-- the top has no name of its own
abbrev pub HasPlaceName : Option ℕ → List ℕ → Type 0
HasPlaceName None name = name ≡ []
HasPlaceName (Some parent) name = IsPrinted name

abbrev pub HasPrintedTexts : Place → Type 0
HasPrintedTexts p = HasPlaceName p.parent p.name × IsPrinted p.«module»

-- what every flat design keeps
pub record IsDesign (d : Design) : Type 0 where
  pub top : 0 < length d.places
  pub plain_top : (place_at d.places 0).leaf ≡ false
  pub parents : (p : ℕ) → p < length d.places → HasParent p (place_at d.places p).parent
  pub in_places : All (λ v. v.place < length d.places) d.pins
  pub together : AllPairs (λ u v. u.place ≤ v.place) d.pins
  pub pin_names : Differ (named_pins d 0)
  pub place_names : Differ (named_cells d 0)
  pub wires : All (IsWireIn d) d.wires
  pub by_last_pin : AllPairs (λ w x. nat_lt w.to.0 x.to.0 ≡ true) d.wires

-- the names of places, modules and ports are identifiers in printed form
pub record HasPrintedNames (d : Design) : Type 0 where
  pub places : All HasPrintedTexts d.places
  pub ports : All (λ v. IsPrinted v.port) d.pins
