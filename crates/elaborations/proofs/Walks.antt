-- The walk over the instances makes the places and pins that it should.
use Rattle.std.specs.Prelude.{◌≡◌, ℕ, ◌<◌, ◌≤◌, ◌+◌, ◌==◌, Bool, true, false, List, [], ◌∷◌, ◌++◌, filter, flat_map, Some, suc, ◌⊎◌}
use Rattle.std.specs.List.{AllZip, range_with_len}
use Rattle.std.proofs.Common.{arith, sym, ◌∙◌, refl, ap, subst, inl, inr, append-nil, eq-eqb}
use Rattle.std.proofs.lemmas.List.Elements.{filter-append}
use Rattle.std.proofs.lemmas.Grind.{flat_map-append}
use Rattle.bud_syntax.specs.declared.modules.Instance.{Instance}
use Rattle.bud_syntax.specs.declared.modules.Module.{Module}
use Rattle.bud_design.specs.declared.designs.Place.{Place}
use Rattle.bud_design.specs.declared.designs.Pin.{Pin}
use Rattle.bud_design.specs.Designs.{place_at}
use Rattle.module_nets.specs.Nets.{same_number}
use Rattle.elaborations.specs.Walks.{children, StandsFor, IsFilled, HasItsParent, AreInside, HasInside, pins_in}
use Rattle.elaborations.proofs.Lists.{range-append, AllZip-append, filter-range-none, by_lt}

apart-number : (m n : ℕ) → (m ≡ n → ⊥) → (m == n) ≡ false
apart-number m n apart = by_equal (m == n) refl
  where
    by_equal : (e : Bool) → (m == n) ≡ e → (m == n) ≡ false
    by_equal true is = absurd (apart (grind (arith, is)))
    by_equal false is = is

children-append : (places : List Place) (p from m n : ℕ) → children places p from (m + n) ≡ children places p from m ++ children places p (from + m) n
children-append places p from m n =
    ap (filter (λ q. same_number (place_at places q).parent (Some p))) (range-append from m n)
    ∙ filter-append (λ q. same_number (place_at places q).parent (Some p)) (range_with_len from m) (range_with_len (from + m) n)

-- where the parents of some places are other places, none of them stands in this one
parent-apart : (places : List Place) (p q parent : ℕ) → (place_at places q).parent ≡ Some parent → (parent ≡ p → ⊥) → same_number (place_at places q).parent (Some p) ≡ false
parent-apart places p q parent is apart = rw is (apart-number parent p apart)

children-none : (places : List Place) (here from n p : ℕ) → ((q : ℕ) → from ≤ q → q < from + n → HasItsParent places here from q) → (here ≡ p → ⊥) → (p < from) ⊎ (from + n ≤ p) → children places p from n ≡ []
children-none places here from n p parents apart out =
    filter-range-none (λ q. same_number (place_at places q).parent (Some p)) from n
    (λ q least most.
    let its = parents q least most in
    parent-apart places p q its.parent its.parent_is (λ same. elim its.before [
      | inl at ↦ apart (sym at ∙ same)
      | inr between ↦ elim out [ inl low ↦ absurd (omega (arith, low, between.0, same)) | inr high ↦ absurd (omega (arith, high, between.1, most, same)) ]
    ]))

-- more places in which nothing of this one stands
pub filled-with : (modules : List Module) (places : List Place) (from m from' m' p : ℕ) → children places p from m ≡ children places p from' m' → IsFilled modules places from m p → IsFilled modules places from' m' p
filled-with modules places from m from' m' p same filled = record {
  «module» = filled.«module»;
  is_of = filled.is_of;
  inside = subst (HasInside filled.«module».leaf modules places filled.«module») same filled.inside;
}

-- instances one after the other
pub AreInside-append : (modules : List Module) (xs ys : List Instance) (here from m n : ℕ) (places : List Place) (pins pins' : List Pin) → here < from
    → AreInside modules xs here from m places pins → AreInside modules ys here (from + m) n places pins' → AreInside modules (xs ++ ys) here from (m + n) places (pins ++ pins')
AreInside-append modules xs ys here from m n places pins pins' less front back = record {
  inside = subst (AllZip (StandsFor modules places) (xs ++ ys)) (sym (children-append places here from m n))
      (AllZip-append (StandsFor modules places) xs ys (children places here from m) (children places here (from + m) n) front.inside back.inside);
  filled = λ p least most. by_part p least most;
  parents = λ p least most. its_parent p least most;
  pins_are = rw (front.pins_are, back.pins_are)
      (sym (ap (flat_map (pins_in modules places)) (range-append from m n) ∙ flat_map-append (pins_in modules places) (range_with_len from m) (range_with_len (from + m) n)));
}
  where
    in_front : (p : ℕ) → from ≤ p → p < from + m → IsFilled modules places from (m + n) p
    in_front p least most =
        let none = children-none places here (from + m) n p back.parents (λ same. absurd (omega (arith, same, less, least))) (inl most) in
        filled-with modules places from m from (m + n) p
        (sym (children-append places p from m n ∙ (ap (λ cs. children places p from m ++ cs) none ∙ append-nil (children places p from m)))) (front.filled p least most)

    in_back : (p : ℕ) → from + m ≤ p → p < (from + m) + n → IsFilled modules places from (m + n) p
    in_back p least most =
        let none = children-none places here from m p front.parents (λ same. absurd (omega (arith, same, less, least))) (inr least) in
        filled-with modules places (from + m) n from (m + n) p
        (sym (children-append places p from m n ∙ ap (λ cs. cs ++ children places p (from + m) n) none)) (back.filled p least most)

    by_part : (p : ℕ) → from ≤ p → p < from + (m + n) → IsFilled modules places from (m + n) p
    by_part p least most = by_lt p (from + m) (λ short. in_front p least short) (λ long. in_back p long (omega (arith, most)))

    its_parent : (p : ℕ) → from ≤ p → p < from + (m + n) → HasItsParent places here from p
    its_parent p least most = by_lt p (from + m) (λ short. front.parents p least short)
        (λ long.
        let its = back.parents p long (omega (arith, most)) in
        record { parent = its.parent; parent_is = its.parent_is; before = further its.parent p its.before; name = its.name; name_is = its.name_is })
      where
        further : (parent p : ℕ) → (parent ≡ here) ⊎ ((from + m) ≤ parent × parent < p) → (parent ≡ here) ⊎ (from ≤ parent × parent < p)
        further parent p (inl at) = inl at
        further parent p (inr between) = inr (omega (arith, between.0), between.1)

-- a place that stands here, by its number's test
parent-here : (places : List Place) (here q : ℕ) → (place_at places q).parent ≡ Some here → same_number (place_at places q).parent (Some here) ≡ true
parent-here places here q is = rw is (eq-eqb here here refl)

children-cons : (places : List Place) (p at n : ℕ) → same_number (place_at places at).parent (Some p) ≡ true → children places p at (suc n) ≡ at ∷ children places p (at + 1) n
children-cons places p at n is = rw is refl

pub children-skip : (places : List Place) (p at n : ℕ) → same_number (place_at places at).parent (Some p) ≡ false → children places p at (suc n) ≡ children places p (at + 1) n
children-skip places p at n is = rw is refl

-- an instance of a plain module, with what is inside it
module _ (modules : List Module) (i : Instance) (here at n : ℕ) (places : List Place) (pins : List Pin) (instances : List Instance) (below : here < at) (stands : StandsFor modules places i at) (parent : (place_at places at).parent ≡ Some here)
    (inside : AreInside modules instances at (at + 1) n places pins) (filled : HasInside stands.child.leaf modules places stands.child (children places at (at + 1) n)) where
  apart-self : (p : ℕ) → (here ≡ p → ⊥) → same_number (place_at places at).parent (Some p) ≡ false
  apart-self p apart = parent-apart places p at here parent apart

  plain-filled : (p : ℕ) → at ≤ p → p < at + suc n → IsFilled modules places at (suc n) p
  plain-filled p least most = by_lt p (at + 1) (λ short. its_own p (omega (arith, least, short)))
      (λ long. filled-with modules places (at + 1) n at (suc n) p (sym (children-skip places p at n (apart-self p (λ same. absurd (omega (arith, same, below, long))))))
      (inside.filled p long (omega (arith, most))))
    where
      its_own : (p : ℕ) → p ≡ at → IsFilled modules places at (suc n) p
      its_own p same = subst (IsFilled modules places at (suc n)) (sym same) (record {
        «module» = stands.child;
        is_of = stands.is_of;
        inside = subst (HasInside stands.child.leaf modules places stands.child) (sym (children-skip places at at n (apart-self at (λ same. absurd (omega (arith, same, below)))))) filled;
      })

  plain-parents : (p : ℕ) → at ≤ p → p < at + suc n → HasItsParent places here at p
  plain-parents p least most = by_lt p (at + 1) (λ short. its_own p (omega (arith, least, short)))
      (λ long.
      let its = inside.parents p long (omega (arith, most)) in
      record { parent = its.parent; parent_is = its.parent_is; before = inr (further its.parent p long its.before); name = its.name; name_is = its.name_is })
    where
      its_own : (p : ℕ) → p ≡ at → HasItsParent places here at p
      its_own p same = subst (HasItsParent places here at) (sym same) (record { parent = here; parent_is = parent; before = inl refl; name = i.name; name_is = stands.name })

      further : (q p : ℕ) → at + 1 ≤ p → (q ≡ at) ⊎ (at + 1 ≤ q × q < p) → at ≤ q × q < p
      further q p long (inl same) = (omega (arith, same), omega (arith, same, long))
      further q p long (inr between) = (omega (arith, between.0), between.1)

  pub AreInside-plain : AreInside modules (i ∷ []) here at (suc n) places (pins_in modules places at ++ pins)
  AreInside-plain = record {
    inside = subst (AllZip (StandsFor modules places) (i ∷ []))
        (sym (children-cons places here at n (parent-here places here at parent) ∙ ap (λ cs. at ∷ cs) (children-none places at (at + 1) n here inside.parents (λ same. absurd (omega (arith, same, below))) (inl (omega (arith, below))))))
        (stands, tt);
    filled = plain-filled;
    parents = plain-parents;
    pins_are = ap (λ ps. pins_in modules places at ++ ps) inside.pins_are;
  }

-- nothing is inside nothing
pub AreInside-nil : (modules : List Module) (here from : ℕ) (places : List Place) → AreInside modules [] here from 0 places []
AreInside-nil modules here from places = record {
  inside = tt;
  filled = λ p least most. absurd (omega (arith, least, most));
  parents = λ p least most. absurd (omega (arith, least, most));
  pins_are = refl;
}
