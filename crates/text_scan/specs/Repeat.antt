-- A production repeated, as `{x}` or `{"," x}` in a grammar.
use Rattle.std.specs.Prelude.{◌≡◌, ℕ, zero, suc, ◌<◌, Bool, true, false, List, [], ◌∷◌, Option, Some, None, if◌then◌else◌}
use Rattle.text_scan.specs.Left.{◌>>=◌}

-- From s on the step is repeated until it is to stop, with these values, and u is left. What is to stop it is a test of
-- what is left: that the next token is a certain one, or isn't.
pub data Runs {S X : Type 0} (stops : S → Bool) (step : S → Option (X × S)) : S → List X → S → Type 0 where
  over : (s : S) → stops s ≡ true → Runs stops step s [] s
  turn : (s t u : S) (x : X) (xs : List X) → stops s ≡ false → step s ≡ Some (x, t) → Runs stops step t xs u → Runs stops step s (x ∷ xs) u

-- the same as a function, for at most this many turns
unfoldable pub repeat : {S X : Type 0} → (S → Bool) → (S → Option (X × S)) → ℕ → S → Option (List X × S)
repeat stops step zero s = if stops s then Some ([], s) else None
repeat stops step (suc turns) s =
    if stops s
    then Some ([], s)
    else (do
      (x, t) ← step s
      (xs, u) ← repeat stops step turns t
      Some (x ∷ xs, u))

-- each step leaves less, so that what is left bounds the turns
abbrev pub Shrinks : {S X : Type 0} → (S → ℕ) → (S → Option (X × S)) → Type 0
Shrinks {S} {X} size step = (s t : S) (x : X) → step s ≡ Some (x, t) → size t < size s
