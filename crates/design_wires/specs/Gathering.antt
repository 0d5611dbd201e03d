-- The wires of all places.
use Rattle.std.specs.Prelude.{ℕ, ◌<◌, List, [], map, flat_map, length, slice_index_or, Option, Some, None, All}
use Rattle.std.specs.List.{range_with_len}
use Rattle.bud_design.specs.declared.designs.Place.{Place}
use Rattle.bud_design.specs.declared.designs.Pin.{Pin}
use Rattle.bud_design.specs.declared.designs.Wire.{Wire}
use Rattle.net_drivers.specs.declared.pins.LocalPin.{LocalPin}
use Rattle.net_drivers.specs.declared.pins.LocalWire.{LocalWire}
use Rattle.elaborations.specs.Elaborations.{wire_at, pin_number, instances_in}

-- the wires of the module of a place: those that are listed for its kind
abbrev pub wires_of : List (List LocalWire) → List ℕ → ℕ → List LocalWire
wires_of locals kinds p = slice_index_or locals (slice_index_or kinds p 0) []

-- the wires of all places, place by place
abbrev pub gathered : List Place → List Pin → (ℕ → List LocalWire) → List Wire
gathered places pins wires = flat_map (λ p. map (wire_at places pins p) (wires p)) (range_with_len 0 (length places))

-- an instance is one of those in the place
abbrev pub IsKid : List Place → ℕ → Option ℕ → Type 0
IsKid places p None = Unit {0}
IsKid places p (Some i) = i < length (instances_in places p)

-- a local pin of a place is a pin of the design
pub record IsPinIn (places : List Place) (pins : List Pin) (p : ℕ) (l : LocalPin) : Type 0 where
  pub kid : IsKid places p l.instance
  pub below : pin_number places pins p l < length pins

pub record JoinsPins (places : List Place) (pins : List Pin) (p : ℕ) (w : LocalWire) : Type 0 where
  pub from : IsPinIn places pins p w.from
  pub to : IsPinIn places pins p w.to

-- the wires of each place join pins of the design
abbrev pub JoinPins : List Place → List Pin → (ℕ → List LocalWire) → Type 0
JoinPins places pins wires = (p : ℕ) → p < length places → All (JoinsPins places pins p) (wires p)
