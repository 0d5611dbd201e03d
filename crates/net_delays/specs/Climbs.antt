-- A way up from a pin over the pins that drive it, to a pin without driver, to a ring, or to a settled pin.
use Rattle.std.specs.Prelude.{◌≡◌, ℕ, ◌+◌, ◌<◌, ◌≤◌, ◌⊎◌, List, length, Some, None, Option, slice_index_or}
use Rattle.bud_base.specs.declared.ids.PinId.{PinId}
use Rattle.net_delays.specs.Forests.{mark_at, IsSettled, AreSettled}
use Rattle.net_delays.specs.declared.forests.Spot.{Spot}
use Rattle.net_delays.specs.declared.forests.Mark.{Mark}
use Rattle.net_delays.specs.declared.forests.Mark.TheVariants.{New, Open, Settled}

abbrev pub pin_on : List PinId → ℕ → ℕ
pin_on path k = (slice_index_or path k (record { 0 = 0 })).0

-- the same pins are settled, with the same spots
pub record AreAlike (before after : List Mark) : Type 0 where
  pub kept : (v : ℕ) → IsSettled (mark_at before v) → mark_at after v ≡ mark_at before v
  pub none : (v : ℕ) → IsSettled (mark_at after v) → mark_at after v ≡ mark_at before v

-- the first `open` pins of the path are the open ones, each driven by the next pin
pub record IsPath (drive : ℕ → Option ℕ) (pins : ℕ) (marks : List Mark) (path : List PinId) (open_ones : ℕ) : Type 0 where
  pub marked : (k : ℕ) → k < open_ones → mark_at marks (pin_on path k) ≡ Open k
  pub on : (v k : ℕ) → mark_at marks v ≡ Open k → (k < open_ones) × (pin_on path k ≡ v)
  pub chain : (k : ℕ) → k + 1 < length path → drive (pin_on path k) ≡ Some (pin_on path (k + 1))
  pub within : (k : ℕ) → k < length path → pin_on path k < pins

-- the pins from the place on have no driver, or are a ring, or there are none and the last pin's driver is settled
abbrev pub IsTop : (ℕ → Option ℕ) → List Mark → List PinId → ℕ → ℕ → Option ℕ → Type 0
IsTop drive marks path last place None = place ≡ last
IsTop drive marks path last place (Some u) = ((place ≤ last) × (pin_on path place ≡ u)) ⊎ ((place ≡ last + 1) × IsSettled (mark_at marks u))

pub record IsClimbed (drive : ℕ → Option ℕ) (before after : List Mark) (path : List PinId) (start place : ℕ) : Type 0 where
  pub size : length after ≡ length before
  pub alike : AreAlike before after
  pub path_is : IsPath drive (length before) after path (length path)
  pub some : 0 < length path
  pub first : pin_on path 0 ≡ start
  pub last : ℕ
  pub last_is : length path ≡ last + 1
  pub top : IsTop drive after path last place (drive (pin_on path last))

-- no pin is open
abbrev pub AreClosed : List Mark → Type 0
AreClosed marks = (v k : ℕ) → mark_at marks v ≡ Open k → ⊥

-- a pin at the top of its tree, or on a ring that `head` stands for
abbrev pub top_spot : PinId → Spot
top_spot head = record { head = head; parent = head; jump = head; depth = 0 }

-- the first so many pins of a top are settled
pub record IsCrowned (before after : List Mark) (top : List PinId) (count : ℕ) : Type 0 where
  pub size : length after ≡ length before
  pub here : (k : ℕ) → k < count → mark_at after (pin_on top k) ≡ Settled (top_spot (slice_index_or top 0 (record { 0 = 0 })))
  pub others : (v : ℕ) → ((k : ℕ) → k < count → pin_on top k ≡ v → ⊥) → mark_at after v ≡ mark_at before v

abbrev pub HasSettledDriver : List Mark → Option ℕ → Type 0
HasSettledDriver marks None = ⊥
HasSettledDriver marks (Some u) = IsSettled (mark_at marks u)

-- the pins of a path are settled from this place on
pub record IsSettling (drive : ℕ → Option ℕ) (before marks : List Mark) (path : List PinId) (place : ℕ) (order : List PinId) : Type 0 where
  pub inside : place ≤ length path
  pub size : length marks ≡ length before
  pub settled : AreSettled drive marks order
  pub path_is : IsPath drive (length before) marks path place
  pub driven : (k : ℕ) → k + 1 ≡ place → HasSettledDriver marks (drive (pin_on path k))
  pub kept : (v : ℕ) → IsSettled (mark_at before v) → IsSettled (mark_at marks v)
  pub behind : (k : ℕ) → place ≤ k → k < length path → IsSettled (mark_at marks (pin_on path k))

-- the first so many pins are settled, and no pin is open
pub record IsGrown (drive : ℕ → Option ℕ) (marks : List Mark) (pins count : ℕ) (order : List PinId) : Type 0 where
  pub size : length marks ≡ pins
  pub settled : AreSettled drive marks order
  pub closed : AreClosed marks
  pub first : (v : ℕ) → v < count → IsSettled (mark_at marks v)
