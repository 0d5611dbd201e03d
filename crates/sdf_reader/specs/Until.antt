-- Steps repeated until a test holds, as `{x}` in a grammar, where what is read is carried along.
use Rattle.std.specs.Prelude.{◌≡◌, ℕ, zero, suc, Bool, true, false, Option, Some, None, if◌then◌else◌}
use Rattle.text_scan.specs.Left.{◌>>=◌}

-- from s on the step is repeated until the test holds, and t is left
pub data Until {S : Type 0} (stops : S → Bool) (step : S → Option S) : S → S → Type 0 where
  over : (s : S) → stops s ≡ true → Until stops step s s
  turn : (s t u : S) → stops s ≡ false → step s ≡ Some t → Until stops step t u → Until stops step s u

-- the same as a function, for at most this many steps
unfoldable pub until : {S : Type 0} → (S → Bool) → (S → Option S) → ℕ → S → Option S
until stops step zero s = if stops s then Some s else None
until stops step (suc steps) s = if stops s then Some s else (step s >>= λ t. until stops step steps t)
