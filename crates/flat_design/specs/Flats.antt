-- What a flat design keeps.
use Rattle.std.specs.Prelude.{◌≡◌, ℕ, ◌<◌, List, [], length, All}
use Rattle.bud_design.specs.declared.designs.Place.{Place}
use Rattle.bud_design.specs.Designs.{Design, place_at}
use Rattle.bud_design.specs.DesignRules.{HasParent, HasPrintedForm, IsPrintedForm, IsDesign}

-- the top has no name, and places, modules and ports are named by identifiers in printed form
pub record HasPrintedForms (d : Design) : Type 0 where
  pub top : (place_at d.places 0).name ≡ []
  pub places : All (λ p. HasPrintedForm p.parent p.name) d.places
  pub modules : All (λ p. IsPrintedForm p.«module») d.places
  pub ports : All (λ v. IsPrintedForm v.port) d.pins

-- a design with names in printed form whose lists are shorter than 2^31
pub record IsFlat (d : Design) : Type 0 where
  pub is_design : IsDesign d
  pub names : HasPrintedForms d
  pub few_places : length d.places < 2147483648
  pub few_pins : length d.pins < 2147483648
  pub few_wires : length d.wires < 2147483648

-- places whose parents stand before them, with names in printed form
pub record ArePlaces (places : List Place) : Type 0 where
  pub top : 0 < length places
  pub parents : (p : ℕ) → p < length places → HasParent p (place_at places p).parent
  pub forms : All (λ p. HasPrintedForm p.parent p.name) places
