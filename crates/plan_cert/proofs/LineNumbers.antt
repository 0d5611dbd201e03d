-- The numbers of the lines.
use Rattle.std.proofs.Common.{◌≡◌, ℕ, ℤ, ◌<◌, List, length, map, subst, sym}
use Rattle.std.specs.Prelude.{All, pos}
use Rattle.std.proofs.lemmas.List.{length-map}
use Rattle.bud_flow.specs.Sums.{number_at}
use Rattle.bud_plans.specs.Plans.{IsPlanNumber}

-- a number of a list whose numbers are in range
pub IsPlanNumber-at : {A : Type 0} (lines : List A) (number_of : A → ℤ) (k : ℕ) (number : ℤ) → All IsPlanNumber (map number_of lines) → k < length lines
    → number ≡ number_at (map number_of lines) k → IsPlanNumber number
IsPlanNumber-at lines number_of k number range within is =
    subst IsPlanNumber (sym is) (range k (pos 0) (simp length-map within))
