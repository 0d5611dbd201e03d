-- Steps are counted on: behind a first list of pins with the groups that are left.
use Rattle.std.specs.Prelude.{◌≡◌, ℕ, suc, ◌+◌, Bool, true, false, List, [], ◌∷◌, ◌++◌, drop, if◌then◌else◌}
use Rattle.std.proofs.Common.{refl, arith}
use Rattle.bud_base.specs.declared.ids.PinId.{PinId}
use Rattle.bud_design.specs.Exceptions.{steps, has_pin}

pub steps-none : (vs : List ℕ) → steps vs [] ≡ 0
steps-none [] = refl
steps-none (v ∷ vs) = refl

steps-append_at : (b : Bool) (us vs : List ℕ) (g : List PinId) (gs : List (List PinId))
    → steps (us ++ vs) gs ≡ steps us gs + steps vs (drop (steps us gs) gs)
    → steps (us ++ vs) (g ∷ gs) ≡ steps us (g ∷ gs) + steps vs (drop (steps us (g ∷ gs)) (g ∷ gs))
    → (if b then suc (steps (us ++ vs) gs) else steps (us ++ vs) (g ∷ gs))
    ≡ (if b then suc (steps us gs) else steps us (g ∷ gs)) + steps vs (drop (if b then suc (steps us gs) else steps us (g ∷ gs)) (g ∷ gs))
steps-append_at true us vs g gs fewer same = omega (arith, fewer)
steps-append_at false us vs g gs fewer same = same

pub steps-append : (us vs : List ℕ) (gs : List (List PinId)) → steps (us ++ vs) gs ≡ steps us gs + steps vs (drop (steps us gs) gs)
steps-append [] vs gs = omega arith
steps-append (u ∷ us) vs [] = omega (arith, steps-none vs)
steps-append (u ∷ us) vs (g ∷ gs) = steps-append_at (has_pin g u) us vs g gs (steps-append us vs gs) (steps-append us vs (g ∷ gs))
