-- Arcs of the timing graph with their homes, arcs that join up, and a topological order of the pins.
use Rattle.std.specs.Prelude.{◌≡◌, ℕ, ◌<◌, ◌≤◌, ◌==◌, ◌&&◌, ℤ, pos, Bool, List, [], ◌∷◌, length, All, AllPairs, Option, slice_index_or}
use Rattle.std.specs.List.{list_any, position_from}
use Rattle.bud_base.specs.declared.ids.PinId.{PinId}
use Rattle.bud_base.specs.declared.ids.ArcId.{ArcId}
use Rattle.bud_design.specs.declared.timings.Timing.{Timing}
use Rattle.bud_design.specs.Orders.{pins_before}

-- an arc of the timing graph, with its least delay in ps and the place that it belongs to
pub record Arc : Type 0 where
  pub from : ℕ
  pub to : ℕ
  pub least : ℤ
  pub home : ℕ

pub record Graph : Type 0 where
  pub arcs : List Arc
  pub order : List PinId

abbrev pub arc_at : List Arc → ℕ → Arc
arc_at arcs a = slice_index_or arcs a (record { from = 0; to = 0; least = pos 0; home = 0 })

abbrev pub is_clocked : Timing → ℕ → Bool
is_clocked t v = list_any (λ x. x.pin.0 == v) t.edges

abbrev pub arc_before : Arc → Arc → Bool
arc_before x y = pins_before x.from x.to y.from y.to

-- the arc of two pins
abbrev pub arc_between : List Arc → ℕ → ℕ → Option ℕ
arc_between arcs a b = position_from (λ x. x.from == a && x.to == b) 0 arcs

-- each pin stands once in the order, and each arc leads to a later place
abbrev pub IsPlaceIn : List PinId → ℕ → ℕ → Type 0
IsPlaceIn order v k = (k < length order) × ((slice_index_or order k (record { 0 = 0 })).0 ≡ v)

pub record IsTopological (pins : ℕ) (arcs : List Arc) (order : List PinId) : Type 0 where
  pub length_is : length order ≡ pins
  pub once : (v : ℕ) → v < pins → (k : ℕ) × IsPlaceIn order v k
  pub forward : (i j k : ℕ) → i < length arcs → IsPlaceIn order (arc_at arcs i).from j → IsPlaceIn order (arc_at arcs i).to k → j < k

-- the arcs join up: they lead from pin v to pin w, each going on where the one before ended
abbrev pub Leads : List Arc → ℕ → List ArcId → ℕ → Type 0
Leads arcs v [] w = v ≡ w
Leads arcs v (x ∷ xs) w = (x.0 < length arcs) × ((arc_at arcs x.0).from ≡ v) × Leads arcs (arc_at arcs x.0).to xs w

-- arcs, at least one, that lead from a pin back to it and enter no pin twice, the least number first
pub record IsArcCycle (arcs : List Arc) (ring : List ArcId) : Type 0 where
  pub first : ArcId
  pub others : List ArcId
  pub list_is : ring ≡ first ∷ others
  pub closed : Leads arcs (arc_at arcs first.0).from ring (arc_at arcs first.0).from
  pub least : All (λ a. first.0 ≤ a.0) others
  pub once : AllPairs (λ a b. (arc_at arcs a.0).to ≡ (arc_at arcs b.0).to → ⊥) ring
