-- What a loop keeps that repeats a production.
use Rattle.std.specs.Prelude.{◌≡◌, ℕ, ◌≤◌, ◌++◌, Bool, List, Option, Some}
use Rattle.text_scan.specs.Left.{◌>>=◌}
use Rattle.text_scan.specs.Repeat.{repeat}

-- what is read, with these values before it
abbrev pub behind_values : {S X : Type 0} → List X → Option (List X × S) → Option (List X × S)
behind_values found read = do
  (xs, s) ← read
  Some (found ++ xs, s)

-- the values so far, and those of what is left, are all
pub record GoesOn {S X : Type 0} (stops : S → Bool) (step : S → Option (X × S)) (size : S → ℕ) (found : List X) (s : S) (all : Option (List X × S)) : Type 0 where
  pub turns : ℕ
  pub room : size s ≤ turns
  pub same : behind_values found (repeat stops step turns s) ≡ all
