-- What chains hold.
use Rattle.std.specs.Prelude.{ℕ, List}

-- the first number of each key, and the next number of the same key after each number
pub record ChainLists : Type 0 where
  pub first : List (ℕ × ℕ)
  pub next : List ℕ
