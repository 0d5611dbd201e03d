-- A walk along wires from the sources of clocks: the clock at each pin so far, and the pins that it has come to.
use Rattle.std.specs.Prelude.{◌≡◌, ℕ, ◌+◌, ◌<◌, ◌⊎◌, Bool, true, false, Option, Some, None, List, [], ◌∷◌, ◌++◌, length, slice_index_or, slice_set, map, count_by, Contains, All}
use Rattle.bud_base.specs.declared.ids.PinId.{PinId}
use Rattle.bud_design.specs.declared.designs.Wire.{Wire}
use Rattle.bud_design.specs.declared.clocks.Clock.{Clock}
use Rattle.bud_design.specs.Clocks.{clock_at}
use Rattle.clock_reach.specs.Leaving.{wire_at}
use Rattle.clock_reach.specs.declared.walks.Front.{Front}

abbrev pub mark_at : List (Option ℕ) → ℕ → Option ℕ
mark_at marks v = slice_index_or marks v None

abbrev pub front_at : List Front → ℕ → Front
front_at queue k = slice_index_or queue k (record { pin = record { 0 = 0 }; clock = 0 })

abbrev pub is_free : Option ℕ → Bool
is_free None = true
is_free (Some c) = false

abbrev pub NoneMarked : List (Option ℕ) → Type 0
NoneMarked marks = (v : ℕ) → mark_at marks v ≡ None

abbrev pub IsMarked : List (Option ℕ) → ℕ → Type 0
IsMarked marks v = (c : ℕ) × (mark_at marks v ≡ Some c)

-- both pins of a wire are below this number
pub record IsWireBelow (pins : ℕ) (w : Wire) : Type 0 where
  pub from : w.from.0 < pins
  pub to : w.to.0 < pins

abbrev pub HasWire : List Wire → ℕ → ℕ → Type 0
HasWire wires a b = (i : ℕ) × (i < length wires) × ((wire_at wires i).from.0 ≡ a) × ((wire_at wires i).to.0 ≡ b)

-- wires lead from a over these pins, one after the other, to b
abbrev pub Joined : List Wire → ℕ → List ℕ → ℕ → Type 0
Joined wires a [] b = a ≡ b
Joined wires a (v ∷ vs) b = HasWire wires a v × Joined wires v vs b

abbrev pub HasSource : List Clock → ℕ → ℕ → Type 0
HasSource clocks c v = (c < length clocks) × Contains (clock_at clocks c).sources (record { 0 = v })

-- the sources of a clock are pins below this number
abbrev pub HasSourcesBelow : ℕ → Clock → Type 0
HasSourcesBelow pins c = All (λ s. s.0 < pins) c.sources

abbrev pub front_of : ℕ → PinId → Front
front_of c pin = record { pin = pin; clock = c }

-- the sources of clocks that are numbered from `n` on
abbrev pub fronts_from : ℕ → List Clock → List Front
fronts_from n [] = []
fronts_from n (c ∷ cs) = map (front_of n) c.sources ++ fronts_from (n + 1) cs

-- one or more wires lead from a source of the clock to the pin
pub record IsLed (wires : List Wire) (clocks : List Clock) (c v : ℕ) : Type 0 where
  pub source : ℕ
  pub is_source : HasSource clocks c source
  pub first : ℕ
  pub others : List ℕ
  pub wired : Joined wires source (first ∷ others) v

-- the pin has its mark and a place in the queue: from before, or now
abbrev pub IsEntered : Option ℕ → Front → List (Option ℕ) → List Front → List (Option ℕ) → List Front → Type 0
IsEntered None x marks queue marked queued = (marked ≡ slice_set marks x.pin.0 (Some x.clock)) × (queued ≡ queue ++ x ∷ [])
IsEntered (Some c) x marks queue marked queued = (marked ≡ marks) × (queued ≡ queue)

-- the pins behind the first `low` wires, as far as these leave the front's pin, are marked
pub record Spreads (wires : List Wire) (low : ℕ) (x : Front) (marks : List (Option ℕ)) (queue : List Front) (marked : List (Option ℕ)) (queued : List Front) : Type 0 where
  pub size : length marked ≡ length marks
  pub kept : (v c : ℕ) → mark_at marks v ≡ Some c → mark_at marked v ≡ Some c
  pub heads : (i : ℕ) → i < low → i < length wires → (wire_at wires i).from.0 ≡ x.pin.0 → IsMarked marked (wire_at wires i).to.0
  pub only : (v c : ℕ) → mark_at marked v ≡ Some c → (mark_at marks v ≡ Some c) ⊎ ((c ≡ x.clock) × HasWire wires x.pin.0 v × Contains queued (record { pin = record { 0 = v }; clock = c }))
  pub more : List Front
  pub queue_is : queued ≡ queue ++ more
  pub added : All (λ y. mark_at marked y.pin.0 ≡ Some y.clock) more
  pub count : count_by is_free marked + length queued ≡ count_by is_free marks + length queue

-- the walk has gone on from the first `done` pins of the queue
pub record IsWalked (wires : List Wire) (clocks : List Clock) (pins : ℕ) (marks : List (Option ℕ)) (queue : List Front) (done : ℕ) : Type 0 where
  pub size : length marks ≡ pins
  pub within : All (λ x. x.pin.0 < pins) queue
  pub led : (v c : ℕ) → mark_at marks v ≡ Some c → IsLed wires clocks c v
  pub fronts : All (λ x. HasSource clocks x.clock x.pin.0 ⊎ (mark_at marks x.pin.0 ≡ Some x.clock)) queue
  pub queued : (v c : ℕ) → mark_at marks v ≡ Some c → Contains queue (record { pin = record { 0 = v }; clock = c })
  pub sources : (v c : ℕ) → HasSource clocks c v → Contains queue (record { pin = record { 0 = v }; clock = c })
  pub heads : (k i : ℕ) → k < done → k < length queue → i < length wires → (wire_at wires i).from.0 ≡ (front_at queue k).pin.0 → IsMarked marks (wire_at wires i).to.0

-- the marked pins are those that a clock's source leads to, each marked by such a clock
pub record AreMarks (wires : List Wire) (clocks : List Clock) (pins : ℕ) (marks : List (Option ℕ)) : Type 0 where
  pub size : length marks ≡ pins
  pub only : (v c : ℕ) → mark_at marks v ≡ Some c → IsLed wires clocks c v
  pub all : (v c : ℕ) → IsLed wires clocks c v → IsMarked marks v
