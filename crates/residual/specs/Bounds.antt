-- Numbers within a bound either way.
use Rattle.std.specs.Prelude.{ℕ, ℤ, pos, ◌<◌, ◌-ℤ◌, ◌≤ℤ◌, ◌^◌, List, length}
use Rattle.bud_flow.specs.Sums.{number_at}

pub record IsWithin (bound number : ℤ) : Type 0 where
  pub low : (pos 0 -ℤ bound) ≤ℤ number
  pub high : number ≤ℤ bound

abbrev pub AllWithin : ℤ → List ℤ → Type 0
AllWithin bound numbers = (v : ℕ) → v < length numbers → IsWithin bound (number_at numbers v)

-- a time is within 2^60 ps either way
abbrev pub IsSmall : ℤ → Type 0
IsSmall time = IsWithin (pos (2 ^ 60)) time
