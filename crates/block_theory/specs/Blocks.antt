-- Blocks: instances of plain modules, their port bits, the arcs inside them, and the through pins that they may not have.
use Rattle.std.specs.Prelude.{◌≡◌, ◌⊎◌, ℕ, ◌<◌, ◌==◌, ◌&&◌, Bool, true, false, List, [], ◌∷◌, length, filter, min, Option, Some, None, All, AllPairs}
use Rattle.bud_base.specs.declared.ids.ArcId.{ArcId}
use Rattle.bud_base.specs.declared.ids.PinId.{PinId}
use Rattle.bud_design.specs.declared.clocks.Exception.{Exception}
use Rattle.bud_design.specs.Arcs.{Arc, arc_at}
use Rattle.bud_design.specs.Designs.{Design, place_at, pin_at, is_inside, is_input, is_output}
use Rattle.bud_design.specs.DesignRules.{Drives, IsLoad}
use Rattle.bud_design.specs.Lists.{first_some}
use Rattle.bud_design.specs.Policies.{are_nested}

-- an instance of a plain module
pub record IsBlock (d : Design) (b : ℕ) : Type 0 where
  pub within : b < length d.places
  pub below_top : 0 < b
  pub plain : (place_at d.places b).leaf ≡ false

-- none of them equals, holds or lies in another
pub record AreBlocks (d : Design) (blocks : List ℕ) : Type 0 where
  pub each : All (IsBlock d) blocks
  pub apart : AllPairs (λ p q. are_nested d p q ≡ false) blocks

-- the bits of a block's input and output ports
abbrev pub is_input_of : Design → ℕ → ℕ → Bool
is_input_of d b v = (pin_at d.pins v).place == b && is_input (pin_at d.pins v).dir

abbrev pub is_output_of : Design → ℕ → ℕ → Bool
is_output_of d b v = (pin_at d.pins v).place == b && is_output (pin_at d.pins v).dir

-- an arc belongs to the block or to a place below it
abbrev pub is_arc_in : Design → List Arc → ℕ → ArcId → Bool
is_arc_in d arcs b x = is_inside d.places b (arc_at arcs x.0).home

-- an arc is a wire between pins of its home and of the places that stand in it, or lies in a leaf
pub record IsWireArc (d : Design) (a : Arc) : Type 0 where
  pub drives : Drives d a.home a.from
  pub loads : IsLoad d a.home a.to

pub record IsLeafArc (d : Design) (a : Arc) : Type 0 where
  pub leaf : (place_at d.places a.home).leaf ≡ true
  pub from : (pin_at d.pins a.from).place ≡ a.home
  pub to : (pin_at d.pins a.to).place ≡ a.home

pub record HasHome (d : Design) (a : Arc) : Type 0 where
  pub from : a.from < length d.pins
  pub to : a.to < length d.pins
  pub home : a.home < length d.places
  pub kind : IsWireArc d a ⊎ IsLeafArc d a

-- an arc that is inside no block
abbrev pub IsGlue : Design → List Arc → List ℕ → ArcId → Type 0
IsGlue d arcs blocks x = All (λ b. is_arc_in d arcs b x ≡ false) blocks

-- the least pin of a group that is a port bit of a block or lies inside it
abbrev pub least_pin : Option ℕ → List PinId → Option ℕ
least_pin best [] = best
least_pin None (v ∷ vs) = least_pin (Some v.0) vs
least_pin (Some best) (v ∷ vs) = least_pin (Some (min best v.0)) vs

abbrev pub group_inside : Design → ℕ → List PinId → Option ℕ
group_inside d b group = least_pin None (filter (λ v. is_inside d.places b (pin_at d.pins v.0).place) group)

-- the first through pin that is a port bit of a block or lies inside it: by block, then exception, then group, then pin number
abbrev pub through_inside : Design → List ℕ → List Exception → Option ℕ
through_inside d blocks exceptions = first_some (λ b. first_some (λ e. first_some (group_inside d b) e.groups) exceptions) blocks
