-- Numbers chained by their keys.
use Rattle.std.specs.Prelude.{◌≡◌, ℕ, ◌+◌, ◌-◌, ◌<◌, ◌≤◌, ◌==◌, List, length, find, Option, Some, None, slice_index_or}
use Rattle.std.specs.List.{range_with_len}
use Rattle.std.specs.Map.{lookup}
use Rattle.name_tables.specs.ChainLists.{ChainLists}

-- a number, or the count of all where there is none
abbrev pub number_or : ℕ → Option ℕ → ℕ
number_or count None = count
number_or count (Some v) = v

-- the key of a number
abbrev pub key_at : List ℕ → ℕ → ℕ
key_at keys v = slice_index_or keys v 0

-- the first number from `low` on, and below the count, that has the key
abbrev pub found : (ℕ → ℕ) → ℕ → ℕ → ℕ → Option ℕ
found keyed low count key = find (λ v. keyed v == key) (range_with_len low (count - low))

-- what the chains have as the first of a key
abbrev pub first_of : ChainLists → ℕ → ℕ
first_of chains key = number_or (length chains.next) (lookup (λ k. key == k) chains.first)

-- the chains have the numbers from `low` on and below the count, by these keys and rising
pub record AreChained (keyed : ℕ → ℕ) (low count : ℕ) (chains : ChainLists) : Type 0 where
  pub all : length chains.next ≡ count
  pub first : (key : ℕ) → first_of chains key ≡ number_or count (found keyed low count key)
  pub next : (v : ℕ) → low ≤ v → v < count → slice_index_or chains.next v 0 ≡ number_or count (found keyed (v + 1) count (keyed v))
