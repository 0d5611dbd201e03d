-- Sums over numbers from 0 up.
use Rattle.std.specs.Prelude.{ℕ, ℤ, pos, ◌+ℤ◌, ◌==◌, List, slice_index_or, if◌then◌else◌}
use Rattle.std.proofs.Common.{zero, suc}

-- the terms of the numbers below the count, added up
abbrev pub sum_below : ℕ → (ℕ → ℤ) → ℤ
sum_below zero term = pos 0
sum_below (suc n) term = sum_below n term +ℤ term n

-- the terms of those numbers below the count that stand at this place, added up
abbrev pub sum_at : ℕ → (ℕ → ℕ) → (ℕ → ℤ) → ℕ → ℤ
sum_at count place_of term place = sum_below count (λ k. if place_of k == place then term k else pos 0)

-- the number at an index below the list's length
abbrev pub number_at : List ℤ → ℕ → ℤ
number_at numbers k = slice_index_or numbers k (pos 0)
