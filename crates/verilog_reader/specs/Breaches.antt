-- Breaches of the rules that the loose form leaves out.
use Rattle.std.specs.Prelude.{ℕ, List}

-- a port's name and where it begins, or where a number out of its range begins
pub data Breach : Type 0 where
  of_port : List ℕ → ℕ → Breach
  of_number : ℕ → Breach
