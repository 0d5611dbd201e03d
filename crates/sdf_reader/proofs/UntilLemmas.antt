-- Repeated steps, one by one.
use Rattle.std.proofs.Common.{◌≡◌, ℕ, zero, suc, ◌<◌, ◌≤◌, Bool, true, false, Option, Some, None, refl, arith}
use Rattle.sdf_reader.specs.Until.{until}

-- the test holds
pub until_ends : {S : Type 0} (stops : S → Bool) (step : S → Option S) (n : ℕ) (s : S) → stops s ≡ true → until stops step n s ≡ Some s
unfolding until
until_ends stops step zero s ends = rw ends refl
until_ends stops step (suc n) s ends = rw ends refl

-- a step that can't be taken
pub until_fails : {S : Type 0} (stops : S → Bool) (step : S → Option S) (n : ℕ) (s : S) → stops s ≡ false → step s ≡ None → until stops step n s ≡ None
unfolding until
until_fails stops step zero s goes_on fails = rw goes_on refl
until_fails stops step (suc n) s goes_on fails = rw (goes_on, fails) refl

-- One turn of a loop. The sizes of what is left bound the steps.
pub until_turn : {S : Type 0} (stops : S → Bool) (step : S → Option S) (n before behind : ℕ) (s t : S) (total : Option S) → before ≤ n → behind < before →
    stops s ≡ false → step s ≡ Some t → until stops step n s ≡ total → (m : ℕ) × ((behind ≤ m) × (until stops step m t ≡ total))
unfolding until
until_turn stops step zero before behind s t total room less goes_on taken same = absurd (omega arith)
until_turn stops step (suc n) before behind s t total room less goes_on taken same = (n, (omega arith, rw (goes_on, taken) at same))
