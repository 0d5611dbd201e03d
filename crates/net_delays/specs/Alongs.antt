-- Delays along several wires, by the pins that they end at.
use Rattle.std.specs.Prelude.{◌≡◌, ℕ, ◌+◌, ◌*◌, ◌<◌, ◌≤◌, ◌==◌, ℤ, pos, ◌+ℤ◌, ◌≤ℤ◌, List, [], length, map, filter, drop, Option, Some, None, slice_index_or, unwrap_or, All}
use Rattle.bud_base.specs.declared.ids.PinId.{PinId}
use Rattle.bud_syntax.specs.Ranges.{IsReadTime}
use Rattle.bud_design.specs.Lists.{greater, greatest}
use Rattle.net_delays.specs.Drives.{AreJoined}
use Rattle.net_delays.specs.declared.alongs.Along.{Along}

abbrev pub along_at : List Along → ℕ → Along
along_at alongs i = slice_index_or alongs i (record { from = record { 0 = 0 }; to = record { 0 = 0 }; value = pos 0 })

abbrev pub ending_at : List Along → ℕ → List Along
ending_at alongs v = filter (λ x. x.to.0 == v) alongs

-- from this one on, the delays that end at the pin
abbrev pub ending_from : List Along → ℕ → Option ℕ → List Along
ending_from alongs v None = []
ending_from alongs v (Some i) = ending_at (drop i alongs) v

-- the next delay that ends at the pin, from this number on
abbrev pub IsEndAt : List Along → ℕ → ℕ → Option ℕ → Type 0
IsEndAt alongs v low None = Unit {0}
IsEndAt alongs v low (Some i) = (low ≤ i) × (i < length alongs) × ((along_at alongs i).to.0 ≡ v)

pub record IsNextEnd (alongs : List Along) (v low : ℕ) (o : Option ℕ) : Type 0 where
  pub stands : IsEndAt alongs v low o
  pub others : ending_from alongs v o ≡ ending_at (drop low alongs) v

abbrev pub next_at : List (Option ℕ) → ℕ → Option ℕ
next_at xs i = slice_index_or xs i None

-- from number `low` on the delays are in lists, one for each pin
pub record AreEndsFrom (alongs : List Along) (low : ℕ) (heads tails : List (Option ℕ)) : Type 0 where
  pub first : (v : ℕ) → v < length heads → IsNextEnd alongs v low (next_at heads v)
  pub next : (i : ℕ) → low ≤ i → i < length alongs → IsNextEnd alongs (along_at alongs i).to.0 (i + 1) (next_at tails i)

abbrev pub sum_of : List ℤ → ℕ → ℤ
sum_of sums v = slice_index_or sums v (pos 0)

-- what a delay adds up to from the top of the tree: what the first pin's does, and its own
abbrev pub reach : (ℕ → ℤ) → Along → ℤ
reach sums x = x.value +ℤ sums x.from.0

abbrev pub greatest_reach : (ℕ → ℤ) → List Along → ℕ → Option ℤ
greatest_reach sums alongs v = greatest (map (reach sums) (ending_at alongs v))

-- the greater of two, where there are any
abbrev pub greater_of : Option ℤ → Option ℤ → Option ℤ
greater_of None o = o
greater_of (Some z) o = Some (greater z o)

-- a pin's sum, from the top of its tree, is the greatest that a delay to it asks, and else its driver's
abbrev pub IsSum : (ℕ → Option ℕ) → List Along → (ℕ → ℤ) → ℕ → Type 0
IsSum drive alongs sums v = (u : ℕ) → drive v ≡ Some u → sums v ≡ unwrap_or (greatest_reach sums alongs v) (sums u)

-- a number within so much either way
pub record IsWithin (bound : ℕ) (z : ℤ) : Type 0 where
  pub low : pos 0 ≤ℤ (z +ℤ pos bound)
  pub high : z ≤ℤ pos bound

-- the delays join pins on one net and are in range
pub record IsSoundAlong (drive : ℕ → Option ℕ) (pins : ℕ) (x : Along) : Type 0 where
  pub from : x.from.0 < pins
  pub to : x.to.0 < pins
  pub joined : AreJoined drive x.from.0 x.to.0
  pub time : IsReadTime x.value

pub record AreSums (drive : ℕ → Option ℕ) (pins : ℕ) (alongs : List Along) (sums : List ℤ) : Type 0 where
  pub size : length sums ≡ pins
  pub each : (v : ℕ) → IsSum drive alongs (sum_of sums) v
  pub within : (v : ℕ) → IsWithin 4294967296000000000 (sum_of sums v)

abbrev pub pin_of : List PinId → ℕ → ℕ
pin_of order k = (slice_index_or order k (record { 0 = 0 })).0

-- the sums of the first so many pins of the order are found, and the others are 0
pub record AreAdded (drive : ℕ → Option ℕ) (alongs : List Along) (order : List PinId) (count : ℕ) (sums : List ℤ) : Type 0 where
  pub found : (j : ℕ) → j < count → IsSum drive alongs (sum_of sums) (pin_of order j)
  pub none : (v : ℕ) → ((j : ℕ) → j < count → pin_of order j ≡ v → ⊥) → sum_of sums v ≡ pos 0
  pub within : (v : ℕ) → IsWithin (1000000000 * count) (sum_of sums v)
