-- First pins of places, and the places in a place.
use Rattle.std.specs.Prelude.{◌≡◌, ◌≢◌, ℕ, zero, suc, ◌<◌, ◌+◌, ◌==◌, Bool, true, false, List, [], ◌∷◌, ◌++◌, length, drop, filter, slice_set, slice_index_or, Option, Some, None}
use Rattle.std.specs.List.{position_from, range_with_len}
use Rattle.std.proofs.Common.{arith, sym, ◌∙◌, refl, ap, eq-eqb, get_or-set_same, get_or-set_other}
use Rattle.std.proofs.Math.ListN.{length-set}
use Rattle.std.proofs.lemmas.Bool.Decides.{Decides-eqb}
use Rattle.std.proofs.lemmas.List.{drop_more, append-nil}
use Rattle.std.proofs.lemmas.List.Elements.{filter-append}
use Rattle.bud_design.specs.declared.designs.Place.{Place}
use Rattle.bud_design.specs.declared.designs.Pin.{Pin}
use Rattle.bud_design.specs.Designs.{place_at}
use Rattle.module_nets.specs.Nets.{same_number}
use Rattle.elaborations.specs.Elaborations.{or_zero, instances_in, place_of}
use Rattle.elaborations.specs.Walks.{children}
use Rattle.elaborations.proofs.Lists.{range-append, filter-range-within}
use Rattle.bud_design.specs.DesignRules.{HasParent}
use Rattle.design_wires.specs.Gathering.{IsKid}
use Rattle.design_wires.specs.Numbers.{IsBelow, with_kid, AreFirstFrom, AreFirstPins, AreKidsBefore, AreKids}

pub by_same : {P : Type 0} (m n : ℕ) → (m ≡ n → P) → (m ≢ n → P) → P
by_same {P} m n same other = by_test (m == n) refl
  where
    by_test : (b : Bool) → (m == n) ≡ b → P
    by_test true e = same ((Decides-eqb m n).0 e)
    by_test false e = other (λ is. differ (sym (eq-eqb m n is) ∙ e))
      where
        differ : true ≡ false → ⊥
        differ same = cc

differ-false : (m n : ℕ) → m ≢ n → (m == n) ≡ false
differ-false m n ne = by_test (m == n) refl
  where
    by_test : (b : Bool) → (m == n) ≡ b → (m == n) ≡ false
    by_test true e = absurd (ne ((Decides-eqb m n).0 e))
    by_test false e = e

at-here : (k p : ℕ) (v : Pin) (rest : List Pin) → (v.place == p) ≡ true → position_from (λ v. v.place == p) k (v ∷ rest) ≡ Some k
at-here k p v rest is = rw is refl

at-later : (k p : ℕ) (v : Pin) (rest : List Pin) → (v.place == p) ≡ false → position_from (λ v. v.place == p) k (v ∷ rest) ≡ position_from (λ v. v.place == p) (k + 1) rest
at-later k p v rest is = rw is refl

-- one pin more, before the others
pub first-more : (pins : List Pin) (count k : ℕ) (v : Pin) (firsts : List ℕ) → k < length pins → v ≡ slice_index_or pins k v → v.place < count
    → AreFirstFrom pins count (k + 1) firsts → AreFirstFrom pins count k (slice_set firsts v.place k)
first-more pins count k v firsts below read within are = record {
  size = length-set firsts v.place k ∙ are.size;
  each = λ p less. by_same v.place p
      (λ same. ap (λ q. slice_index_or (slice_set firsts v.place k) q 0) (sym same)
      ∙ (get_or-set_same firsts v.place k 0 (omega (arith, within, are.size))
      ∙ sym (ap or_zero (from_here p ∙ at-here k p v (drop (k + 1) pins) (eq-eqb v.place p same)))))
      (λ other. get_or-set_other firsts v.place p k 0 (λ e. other (sym e))
      ∙ (are.each p less ∙ sym (ap or_zero (from_here p ∙ at-later k p v (drop (k + 1) pins) (differ-false v.place p other)))));
}
  where
    from_here : (p : ℕ) → position_from (λ v. v.place == p) k (drop k pins) ≡ position_from (λ v. v.place == p) k (v ∷ drop (k + 1) pins)
    from_here p = ap (position_from (λ v. v.place == p) k) (drop_more pins k v below ∙ ap (λ x. x ∷ drop (k + 1) pins) (sym read))

pub first-whole : (pins : List Pin) (count : ℕ) (firsts : List ℕ) → AreFirstFrom pins count 0 firsts → AreFirstPins pins count firsts
first-whole pins count firsts are = record { size = are.size; each = are.each }

-- no place yet
pub get-none : (xs : List (List ℕ)) → ((p : ℕ) → slice_index_or xs p [] ≡ []) → (p : ℕ) → slice_index_or (xs ++ [] ∷ []) p [] ≡ []
get-none [] none zero = refl
get-none [] none (suc p) = refl
get-none (x ∷ xs) none zero = none 0
get-none (x ∷ xs) none (suc p) = get-none xs (λ q. none (suc q)) p

pub kids-none : (places : List Place) (kids : List (List ℕ)) → length kids ≡ length places → ((p : ℕ) → slice_index_or kids p [] ≡ []) → AreKidsBefore places 0 kids
kids-none places kids size none = record { size = size; each = λ p less. none p }

children-more : (places : List Place) (p k : ℕ) → children places p 0 (k + 1) ≡ children places p 0 k ++ filter (λ q. same_number (place_at places q).parent (Some p)) (k ∷ [])
children-more places p k =
    ap (filter (λ q. same_number (place_at places q).parent (Some p))) (range-append 0 k 1 ∙ ap (λ j. range_with_len 0 k ++ j ∷ []) (let z : 0 + k ≡ k = omega arith in z))
    ∙ filter-append (λ q. same_number (place_at places q).parent (Some p)) (range_with_len 0 k) (k ∷ [])

no-child : (places : List Place) (p k : ℕ) → same_number (place_at places k).parent (Some p) ≡ false → children places p 0 (k + 1) ≡ children places p 0 k
no-child places p k is = children-more places p k ∙ (ap (λ xs. children places p 0 k ++ xs) (rw is refl) ∙ append-nil (children places p 0 k))

one-child : (places : List Place) (p k : ℕ) → same_number (place_at places k).parent (Some p) ≡ true → children places p 0 (k + 1) ≡ children places p 0 k ++ k ∷ []
one-child places p k is = children-more places p k ∙ ap (λ xs. children places p 0 k ++ xs) (rw is refl)

-- a place that stands in none
pub kids-skip : (places : List Place) (k : ℕ) (kids : List (List ℕ)) → (place_at places k).parent ≡ None → AreKidsBefore places k kids → AreKidsBefore places (k + 1) kids
kids-skip places k kids none are = record {
  size = are.size;
  each = λ p less. are.each p less ∙ sym (no-child places p k (ap (λ o. same_number o (Some p)) none));
}

-- and one that stands in another
pub kids-more : (places : List Place) (k q : ℕ) (kids : List (List ℕ)) (kid : List ℕ) → (place_at places k).parent ≡ Some q → q < length places
    → kid ≡ slice_index_or kids q [] ++ k ∷ [] → AreKidsBefore places k kids → AreKidsBefore places (k + 1) (slice_set kids q kid)
kids-more places k q kids kid parent below is are = record {
  size = length-set kids q kid ∙ are.size;
  each = λ p less. by_same q p
      (λ same. ap (λ r. slice_index_or (slice_set kids q kid) r []) (sym same)
      ∙ (get_or-set_same kids q kid [] (omega (arith, below, are.size))
      ∙ (is ∙ (ap (λ xs. xs ++ k ∷ []) (are.each q below ∙ ap (λ r. children places r 0 k) same)
      ∙ sym (one-child places p k (ap (λ o. same_number o (Some p)) parent ∙ eq-eqb q p same))))))
      (λ other. get_or-set_other kids q p kid [] (λ e. other (sym e))
      ∙ (are.each p less ∙ sym (no-child places p k (ap (λ o. same_number o (Some p)) parent ∙ differ-false q p other))));
}

pub kids-whole : (places : List Place) (kids : List (List ℕ)) → AreKidsBefore places (length places) kids → AreKids places kids
kids-whole places kids are = record { size = are.size; each = are.each }

-- what stands in a place is a place
pub kid-within : (places : List Place) (p i : ℕ) → i < length (instances_in places p) → slice_index_or (instances_in places p) i 0 < length places
kid-within places p i below =
    let within = filter-range-within (λ q. same_number (place_at places q).parent (Some p)) 0 (length places) i 0 below in
    omega (arith, within.0.1)

pub place-within : (places : List Place) (p : ℕ) (o : Option ℕ) → p < length places → IsKid places p o → place_of places p o < length places
place-within places p None less kid = less
place-within places p (Some i) less kid = kid-within places p i kid

-- one place more in the place that it stands in, if in one
pub kids-step : (places : List Place) (k : ℕ) (kids : List (List ℕ)) (o : Option ℕ) → (place_at places k).parent ≡ o → IsBelow (length places) o
    → AreKidsBefore places k kids → AreKidsBefore places (k + 1) (with_kid kids o k)
kids-step places k kids None is below are = kids-skip places k kids is are
kids-step places k kids (Some q) is below are = kids-more places k q kids (slice_index_or kids q [] ++ k ∷ []) is below refl are

pub parent-below : (p n : ℕ) (o : Option ℕ) → p < n → HasParent p o → IsBelow n o
parent-below p n None less has = tt
parent-below p n (Some q) less has = omega (arith, less, has)
