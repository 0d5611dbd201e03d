-- What a fanout holds.
use Rattle.std.specs.Prelude.{ℕ, List, Option}

-- the first wire of each pin, and the next wire after each wire
pub record FanoutLists : Type 0 where
  pub first : List (Option ℕ)
  pub next : List (Option ℕ)
