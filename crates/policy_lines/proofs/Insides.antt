-- Whether a place lies in another, by a step to the place above it.
use Rattle.std.proofs.Common.{◌≡◌, ℕ, zero, suc, ◌<◌, ◌==◌, false, List, ◌∷◌, length, Option, Some, None, refl, ◌∙◌, ap, subst, arith}
use Rattle.std.specs.List.{list_any}
use Rattle.std.proofs.lemmas.Bool.{ne_eqb}
use Rattle.bud_design.specs.DesignRules.{HasParent}
use Rattle.bud_design.specs.Designs.{place_at, above, upwards, is_inside}
use Rattle.bud_design.specs.declared.designs.Place.{Place}

module _ (places : List Place) (parents : (p : ℕ) → p < length places → HasParent p (place_at places p).parent) where
  above-same : (m n p : ℕ) (o : Option ℕ) → p < length places → HasParent p o → ((q : ℕ) → q < p → upwards m places q ≡ upwards n places q) → above (upwards m places) o ≡ above (upwards n places) o
  above-same m n p None below less same = refl
  above-same m n p (Some q) below less same = same q less

  -- more steps than there are places up to the top change nothing
  upwards-same : (m n p : ℕ) → p < length places → p < m → p < n → upwards m places p ≡ upwards n places p
  upwards-same zero n p below overm overn = absurd (omega (arith, overm))
  upwards-same (suc m) zero p below overm overn = absurd (omega (arith, overn))
  upwards-same (suc m) (suc n) p below overm overn =
      ap (λ qs. p ∷ qs) (above-same m n p (place_at places p).parent below (parents p below)
      (λ q less. upwards-same m n q (omega (arith, less, below)) (omega (arith, less, overm)) (omega (arith, less, overn))))

  -- the top lies in itself alone
  pub inside-stops : (root p : ℕ) → (p ≡ root → ⊥) → (place_at places p).parent ≡ None → is_inside places root p ≡ false
  inside-stops root p other stops = rw (stops, ne_eqb p root other) refl

  parent-lower : (p q : ℕ) (o : Option ℕ) → o ≡ Some q → HasParent p o → q < p
  parent-lower p q o is has = subst (HasParent p) is has

  pub parent-below : (p q : ℕ) → p < length places → (place_at places p).parent ≡ Some q → q < p
  parent-below p q below is = parent-lower p q (place_at places p).parent is (parents p below)

  -- another place lies in it exactly where its parent does
  pub inside-goes_up : (root p q : ℕ) → p < length places → (p ≡ root → ⊥) → (place_at places p).parent ≡ Some q → is_inside places root p ≡ is_inside places root q
  inside-goes_up root p q below other is =
      let less = parent-below p q below is in
      let one : is_inside places root p ≡ list_any (λ r. r == root) (upwards p places q) = rw (is, ne_eqb p root other) refl in
      one ∙ ap (λ (qs : List ℕ). list_any (λ r. r == root) qs) (upwards-same p (suc q) q (omega (arith, less, below)) less (omega arith))
