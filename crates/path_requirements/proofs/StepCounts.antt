-- The steps are the greatest number of groups that pins pass in turn.
use Rattle.std.specs.Prelude.{ℕ, suc, ◌≤◌, Bool, true, false, List, [], ◌∷◌, length, if◌then◌else◌}
use Rattle.std.proofs.Common.{arith}
use Rattle.bud_base.specs.declared.ids.PinId.{PinId}
use Rattle.bud_design.specs.Exceptions.{steps, has_pin, AreSteps}
use Rattle.bud_design.proofs.ClassLaws.{steps-pass, pass-steps}

steps-within_at : (b : Bool) (s t n : ℕ) → s ≤ n → t ≤ suc n → (if b then suc s else t) ≤ suc n
steps-within_at true s t n first second = omega (arith, first)
steps-within_at false s t n first second = second

steps-within : (vs : List ℕ) (groups : List (List PinId)) → steps vs groups ≤ length groups
steps-within [] groups = omega arith
steps-within (v ∷ vs) [] = omega arith
steps-within (v ∷ vs) (g ∷ gs) =
    let here = steps-within_at (has_pin g v) (steps vs gs) (steps vs (g ∷ gs)) (length gs) (steps-within vs gs) (omega (arith, steps-within vs (g ∷ gs))) in
    omega (arith, here)

pub AreSteps-steps : (vs : List ℕ) (groups : List (List PinId)) → AreSteps vs groups (steps vs groups)
AreSteps-steps vs groups = (
  steps-within vs groups,
  steps-pass vs groups (steps vs groups) (omega arith),
  λ k more within passes. absurd (omega (arith, more, pass-steps vs groups k within passes)),
)
