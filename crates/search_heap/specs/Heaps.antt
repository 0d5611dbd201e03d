-- A heap: right below place k are places 2k + 1 and 2k + 2, and nothing is nearer than what stands above it.
use Rattle.std.specs.Prelude.{◌≡◌, ◌≢◌, ℕ, ℤ, pos, ◌+◌, ◌*◌, ◌<◌, ◌≤◌, ◌≤ℤ◌, Option, Some, None, List, length, slice_index_or}
use Rattle.search_heap.specs.declared.entries.Near.{Near}

abbrev pub near_at : List Near → ℕ → Near
near_at offers k = slice_index_or offers k (record { node = record { 0 = 0 }; distance = pos 0 })

-- the distance at a place
abbrev pub far : List Near → ℕ → ℤ
far offers k = (near_at offers k).distance

-- place j stands right below place k
pub record IsBelow (k j : ℕ) : Type 0 where
  pub first : 2 * k + 1 ≤ j
  pub last : j ≤ 2 * k + 2

-- so many places are a heap
pub record IsHeap (count : ℕ) (at : ℕ → ℤ) : Type 0 where
  pub each : (k j : ℕ) → IsBelow k j → j < count → at k ≤ℤ at j

-- they are one but for what stands at place p
pub record IsHeapBut (count : ℕ) (at : ℕ → ℤ) (p : ℕ) : Type 0 where
  pub others : (k j : ℕ) → IsBelow k j → j < count → k ≢ p → j ≢ p → at k ≤ℤ at j
  pub across : (k j : ℕ) → IsBelow k p → IsBelow p j → j < count → at k ≤ℤ at j

-- what stands right below place p isn't nearer
pub record IsNearEnough (count : ℕ) (at : ℕ → ℤ) (p : ℕ) : Type 0 where
  pub each : (j : ℕ) → IsBelow p j → j < count → at p ≤ℤ at j

-- what stands right above place p isn't farther
pub record IsFarEnough (at : ℕ → ℤ) (p : ℕ) : Type 0 where
  pub each : (k : ℕ) → IsBelow k p → at k ≤ℤ at p

-- the nearest of what stands right below a place, if anything does
abbrev pub IsNearestBelow : ℕ → (ℕ → ℤ) → ℕ → Option ℕ → Type 0
IsNearestBelow count at p None = (j : ℕ) → IsBelow p j → j < count → ⊥
IsNearestBelow count at p (Some c) = IsBelow p c × (c < count) × ((j : ℕ) → IsBelow p j → j < count → at c ≤ℤ at j)

-- each of so many offers is at the place that is known of its node
abbrev pub ArePlaced : List Near → List ℕ → ℕ → Type 0
ArePlaced offers places count =
    (k : ℕ) → k < count → ((near_at offers k).node.0 < length places) × (slice_index_or places (near_at offers k).node.0 0 ≡ k)
