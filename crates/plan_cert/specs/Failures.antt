-- The first number at which a fact fails.
use Rattle.std.specs.Prelude.{ℕ, ◌<◌, Option, Some, None}

abbrev pub AllBelow : (ℕ → Type 0) → ℕ → Type 0
AllBelow Holds count = (k : ℕ) → k < count → Holds k

-- of the numbers below the count this is the first at which the fact fails
pub record IsFirstFailure (Holds : ℕ → Type 0) (count k : ℕ) : Type 0 where
  pub within : k < count
  pub fails : Holds k → ⊥
  pub before : AllBelow Holds k

-- the first failure, or none where the fact holds at each number below the count
abbrev pub IsFailure : (ℕ → Type 0) → ℕ → Option ℕ → Type 0
IsFailure Holds count None = AllBelow Holds count
IsFailure Holds count (Some k) = IsFirstFailure Holds count k
