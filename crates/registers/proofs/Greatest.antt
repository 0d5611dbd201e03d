-- When a number is the greatest of those that some elements of a list give.
use Rattle.std.proofs.Common.{◌≡◌, Bool, true, false, cond, ℤ, ◌≤ℤ◌, int_le, List, [], ◌∷◌, map, filter, Option, Some, None, ◌⊎◌, refl, sym, ap, subst, ◌∙◌, inl, inr, arith, true≢false}
use Rattle.std.proofs.lemmas.Grind.{common_steps}
use Rattle.std.proofs.lemmas.Int.{ints}
use Rattle.std.proofs.lemmas.Option.{same_Some, none-some}
use Rattle.bud_design.specs.Lists.{greater, greatest}

-- an element that is such gives the number
abbrev pub HasOne : {X : Type 0} → (X → Bool) → (X → ℤ) → ℤ → List X → Type 0
HasOne p f v [] = ⊥
HasOne p f v (t ∷ ts) = ((p t ≡ true) × (f t ≡ v)) ⊎ HasOne p f v ts

-- and none that is such gives more
abbrev pub HasMost : {X : Type 0} → (X → Bool) → (X → ℤ) → ℤ → List X → Type 0
HasMost p f v [] = Unit {0}
HasMost p f v (t ∷ ts) = (p t ≡ true → f t ≤ℤ v) × HasMost p f v ts

greater-least : (x y v : ℤ) → x ≤ℤ v → y ≡ v → greater x (Some y) ≡ v
greater-least x y v less is = grind (arith, common_steps, ints)

greater-first : (x : ℤ) (o : Option ℤ) (v : ℤ) → x ≡ v → ((y : ℤ) → o ≡ Some y → y ≤ℤ v) → greater x o ≡ v
greater-first x None v is most = is
greater-first x (Some y) v is most = let below = most y refl in grind (arith, common_steps, ints)

greater-cases : {P : Type 0} (x : ℤ) (o : Option ℤ) (v : ℤ) → greater x o ≡ v → ((x ≡ v) → (o ≡ None) → P) → ((y : ℤ) → o ≡ Some y → x ≡ v → y ≤ℤ v → P) → ((y : ℤ) → o ≡ Some y → y ≡ v → x ≤ℤ v → P) → P
greater-cases x None v is none first rest = none is refl
greater-cases x (Some y) v is none first rest = elim (split x y) [
  | inl less ↦ rest y refl (let whole : greater x (Some y) ≡ v = is in grind (arith, common_steps, ints)) (let whole : greater x (Some y) ≡ v = is in grind (arith, common_steps, ints))
  | inr more ↦ first y refl (let whole : greater x (Some y) ≡ v = is in grind (arith, common_steps, ints)) (let whole : greater x (Some y) ≡ v = is in grind (arith, common_steps, ints))
]
  where
    split : (a b : ℤ) → (int_le a b ≡ true) ⊎ (int_le a b ≡ false)
    split a b = elim (int_le a b) as (λ t. (t ≡ true) ⊎ (t ≡ false)) [ true ↦ inl refl | false ↦ inr refl ]

module _ {X : Type 0} (p : X → Bool) (f : X → ℤ) where
  most-by : (t : X) (ts : List X) (v y : ℤ) (b : Bool) → p t ≡ b → (p t ≡ true → f t ≤ℤ v) → ((z : ℤ) → greatest (map f (filter p ts)) ≡ Some z → z ≤ℤ v)
      → greatest (map f (cond b (t ∷ filter p ts) (filter p ts))) ≡ Some y → y ≤ℤ v
  most-by t ts v y true is here rest e = greater-cases {P = y ≤ℤ v} (f t) (greatest (map f (filter p ts))) y (same_Some (greater (f t) (greatest (map f (filter p ts)))) y e)
      (λ same none. subst (λ z. z ≤ℤ v) same (here is))
      (λ z some same below. subst (λ w. w ≤ℤ v) same (here is))
      (λ z some same below. subst (λ w. w ≤ℤ v) same (rest z some))
  most-by t ts v y false is here rest e = rest y e

  most_of : (ts : List X) (v : ℤ) → HasMost p f v ts → (y : ℤ) → greatest (map f (filter p ts)) ≡ Some y → y ≤ℤ v
  most_of [] v most y e = absurd (none-some y e)
  most_of (t ∷ ts) v most y e = most-by t ts v y (p t) refl most.0 (most_of ts v most.1) e

  from-by : (t : X) (ts : List X) (v : ℤ) (b : Bool) → p t ≡ b → HasOne p f v (t ∷ ts) → HasMost p f v (t ∷ ts) → (HasOne p f v ts → greatest (map f (filter p ts)) ≡ Some v)
      → greatest (map f (cond b (t ∷ filter p ts) (filter p ts))) ≡ Some v
  from-by t ts v true is one most rest = elim one [
    | inl here ↦ ap (λ z. Some z) (greater-first (f t) (greatest (map f (filter p ts))) v here.1 (most_of ts v most.1))
    | inr later ↦ (let found = rest later in rw found (ap (λ z. Some z) (greater-least (f t) v v (most.0 is) refl)))
  ]
  from-by t ts v false is one most rest = elim one [
    | inl here ↦ absurd (true≢false (sym here.0 ∙ is))
    | inr later ↦ rest later
  ]

  pub greatest_from : (ts : List X) (v : ℤ) → HasOne p f v ts → HasMost p f v ts → greatest (map f (filter p ts)) ≡ Some v
  greatest_from [] v one most = absurd one
  greatest_from (t ∷ ts) v one most = from-by t ts v (p t) refl one most (λ later. greatest_from ts v later most.1)

  none-by : (t : X) (ts : List X) (v : ℤ) (b : Bool) → p t ≡ b → (greatest (map f (filter p ts)) ≡ None → HasMost p f v ts) → greatest (map f (cond b (t ∷ filter p ts) (filter p ts))) ≡ None → HasMost p f v (t ∷ ts)
  none-by t ts v true is rest e = absurd (none-some (greater (f t) (greatest (map f (filter p ts)))) (sym e))
  none-by t ts v false is rest e = ((λ holds. absurd (true≢false (sym holds ∙ is))), rest e)

  none_most : (ts : List X) (v : ℤ) → greatest (map f (filter p ts)) ≡ None → HasMost p f v ts
  none_most [] v e = tt
  none_most (t ∷ ts) v e = none-by t ts v (p t) refl (none_most ts v) e

  most_weaker : (ts : List X) (v w : ℤ) → v ≤ℤ w → HasMost p f v ts → HasMost p f w ts
  most_weaker [] v w less most = tt
  most_weaker (t ∷ ts) v w less most = ((λ holds. (let below = most.0 holds in omega (arith, ints, below, less))), most_weaker ts v w less most.1)

  one-by : (t : X) (ts : List X) (v : ℤ) (b : Bool) → p t ≡ b → ((w : ℤ) → greatest (map f (filter p ts)) ≡ Some w → HasOne p f w ts × HasMost p f w ts)
      → greatest (map f (cond b (t ∷ filter p ts) (filter p ts))) ≡ Some v → HasOne p f v (t ∷ ts) × HasMost p f v (t ∷ ts)
  one-by t ts v true is rest e = greater-cases {P = HasOne p f v (t ∷ ts) × HasMost p f v (t ∷ ts)} (f t) (greatest (map f (filter p ts))) v (same_Some (greater (f t) (greatest (map f (filter p ts)))) v e)
      (λ same none. (inl (is, same), ((λ holds. omega (arith, ints, same)), none_most ts v none)))
      (λ z some same below. (inl (is, same), ((λ holds. omega (arith, ints, same)), most_weaker ts z v below (rest z some).1)))
      (λ z some same below. (inr (subst (λ w. HasOne p f w ts) same (rest z some).0), ((λ holds. below), subst (λ w. HasMost p f w ts) same (rest z some).1)))
  one-by t ts v false is rest e = let found = rest v e in (inr found.0, ((λ holds. absurd (true≢false (sym holds ∙ is))), found.1))

  -- what a greatest number says of the elements
  pub greatest_one : (ts : List X) (v : ℤ) → greatest (map f (filter p ts)) ≡ Some v → HasOne p f v ts × HasMost p f v ts
  greatest_one [] v e = absurd (none-some v e)
  greatest_one (t ∷ ts) v e = one-by t ts v (p t) refl (greatest_one ts) e
