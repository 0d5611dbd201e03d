-- Lists of numbers, and sums, by the terms of numbers from 0 up.
use Rattle.std.specs.Prelude.{◌≡◌, ℕ, ℤ, pos, ◌*◌, ◌<◌, ◌≤ℤ◌, List, length}
use Rattle.bud_flow.specs.Sums.{sum_below, number_at}

-- the list has the terms of the numbers below the count
pub record AreTerms (term : ℕ → ℤ) (count : ℕ) (numbers : List ℤ) : Type 0 where
  pub size : length numbers ≡ count
  pub each : (k : ℕ) → k < count → number_at numbers k ≡ term k

-- a weight of at most 2^20 times a budget of at most 2*10^9 ps
pub record IsSmallProduct (number : ℤ) : Type 0 where
  pub low : pos 0 ≤ℤ number
  pub high : number ≤ℤ pos 2097152000000000

-- the terms of the numbers below the count, so many small products, add up to the total
pub record IsSmallTotal (term : ℕ → ℤ) (count : ℕ) (total : ℤ) : Type 0 where
  pub value : total ≡ sum_below count term
  pub low : pos 0 ≤ℤ total
  pub high : total ≤ℤ pos (2097152000000000 * count)
