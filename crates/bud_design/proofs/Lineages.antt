-- Places inside places: every place is inside the top, what is inside goes on, and two that hold a place are nested.
use Rattle.std.specs.Prelude.{◌≡◌, ℕ, ◌<◌, ◌==◌, Bool, true, false, List, ◌∷◌, length, Option, Some, None, ◌≤◌, ◌⊎◌, ◌||◌, zero, suc}
use Rattle.std.specs.List.{list_any}
use Rattle.std.proofs.Common.{true≢false, arith, sym, ◌∙◌, refl, ap, inl, inr, subst, eq-eqb}
use Rattle.std.proofs.lemmas.Bool.Decides.{Decides-eqb}
use Rattle.bud_design.specs.Designs.{place_at, above, upwards, is_inside}
use Rattle.bud_design.specs.DesignRules.{HasParent}
use Rattle.bud_design.specs.declared.designs.Place.{Place}

abbrev or_zero : Option ℕ → ℕ
or_zero None = 0
or_zero (Some n) = n

-- a place is inside the root, by so many steps up
abbrev pub inside : ℕ → List Place → ℕ → ℕ → Bool
inside n places root p = list_any (λ q. q == root) (upwards n places p)

abbrev pub inside_above : ℕ → List Place → ℕ → Option ℕ → Bool
inside_above n places root o = list_any (λ q. q == root) (above (upwards n places) o)

or-true : (b : Bool) → b || true ≡ true
or-true true = refl
or-true false = refl

or-cases : (a b : Bool) → a || b ≡ true → (a ≡ true) ⊎ (b ≡ true)
or-cases true b e = inl refl
or-cases false b e = inr e

module _ (places : List Place) (rising : (p : ℕ) → p < length places → HasParent p (place_at places p).parent) where
  above-same : (m n p : ℕ) (o : Option ℕ) → p < length places → HasParent p o → ((q : ℕ) → q < p → upwards m places q ≡ upwards n places q) → above (upwards m places) o ≡ above (upwards n places) o
  above-same m n p None below less same = refl
  above-same m n p (Some q) below less same = same q less

  -- more steps than there are places up to the top change nothing
  upwards-same : (m n p : ℕ) → p < length places → p < m → p < n → upwards m places p ≡ upwards n places p
  upwards-same zero n p below overm overn = absurd (omega (arith, overm))
  upwards-same (suc m) zero p below overm overn = absurd (omega (arith, overn))
  upwards-same (suc m) (suc n) p below overm overn =
      ap (λ qs. p ∷ qs) (above-same m n p (place_at places p).parent below (rising p below)
      (λ q less. upwards-same m n q (omega (arith, less, below)) (omega (arith, less, overm)) (omega (arith, less, overn))))

  top-at : (n p : ℕ) (o : Option ℕ) → HasParent p o → ((q : ℕ) → q < p → inside n places 0 q ≡ true) → (p == 0) || inside_above n places 0 o ≡ true
  top-at n p None is rest = rw (eq-eqb p 0 is) refl
  top-at n p (Some q) less rest = rw (rest q less) (or-true (p == 0))

  inside-top : (n p : ℕ) → p < length places → p < n → inside n places 0 p ≡ true
  inside-top zero p below over = absurd (omega (arith, over))
  inside-top (suc n) p below over =
      top-at n p (place_at places p).parent (rising p below) (λ q less. inside-top n q (omega (arith, less, below)) (omega (arith, less, over)))

  -- every place is inside the top
  pub is_inside-top : (p : ℕ) → p < length places → is_inside places 0 p ≡ true
  is_inside-top p below = inside-top (suc p) p below (omega arith)

  -- what is inside the root above a place is its parent
  pub above-cases : {P : Type 0} (n r p : ℕ) (o : Option ℕ) → (place_at places p).parent ≡ o → HasParent p o → inside_above n places r o ≡ true
      → ((q : ℕ) → (place_at places p).parent ≡ Some q → q < p → inside n places r q ≡ true → P) → P
  above-cases n r p None e less holds onward = absurd (true≢false (sym holds))
  above-cases n r p (Some q) e less holds onward = onward q e less holds

  -- inside the root: the root, or a place whose parent is
  inside-cases : {P : Type 0} (n r p : ℕ) → p < length places → inside (suc n) places r p ≡ true → (p ≡ r → P) → ((q : ℕ) → (place_at places p).parent ≡ Some q → q < p → inside n places r q ≡ true → P) → P
  inside-cases n r p below holds same onward = elim (or-cases (p == r) (inside_above n places r (place_at places p).parent) holds) [
    | inl e ↦ same ((Decides-eqb p r).0 e)
    | inr later ↦ above-cases n r p (place_at places p).parent refl (rising p below) later onward
  ]

  inside-parent : (n r p q : ℕ) → (place_at places p).parent ≡ Some q → inside n places r q ≡ true → inside (suc n) places r p ≡ true
  inside-parent n r p q e holds = rw (e, holds) (or-true (p == r))

  -- a place inside another has no lower number
  inside-most : (n r p : ℕ) → p < length places → inside n places r p ≡ true → r ≤ p
  inside-most zero r p below holds = absurd (true≢false (sym holds))
  inside-most (suc n) r p below holds = inside-cases n r p below holds (λ same. omega (arith, same)) (λ q e less rest. omega (arith, less, inside-most n r q (omega (arith, less, below)) rest))

  pub is_inside-most : (r p : ℕ) → p < length places → is_inside places r p ≡ true → r ≤ p
  is_inside-most r p below holds = inside-most (suc p) r p below holds

  inside-same : (m n r p : ℕ) → p < length places → p < m → p < n → inside m places r p ≡ true → inside n places r p ≡ true
  inside-same m n r p below overm overn holds = ap (list_any (λ q. q == r)) (upwards-same n m p below overn overm) ∙ holds

  inside-inside : (n m a b c : ℕ) → c < length places → c < n → b < m → inside n places b c ≡ true → inside m places a b ≡ true → inside n places a c ≡ true
  inside-inside zero m a b c below overn overm inner outer = absurd (omega (arith, overn))
  inside-inside (suc n) m a b c below overn overm inner outer = inside-cases n b c below inner
      (λ same. inside-same m (suc n) a c below (omega (arith, same, overm)) overn (subst (λ p. inside m places a p ≡ true) (sym same) outer))
      (λ q e less rest. inside-parent n a c q e (inside-inside n m a b q (omega (arith, less, below)) (omega (arith, less, overn)) overm rest outer))

  -- what is inside a place is inside what the place is inside
  pub is_inside-inside : (a b c : ℕ) → c < length places → is_inside places b c ≡ true → is_inside places a b ≡ true → is_inside places a c ≡ true
  is_inside-inside a b c below inner outer = inside-inside (suc c) (suc b) a b c below (omega arith) (omega arith) inner outer

  inside-nested : (n a b c : ℕ) → c < length places → c < n → inside n places a c ≡ true → inside n places b c ≡ true → (is_inside places a b ≡ true) ⊎ (is_inside places b a ≡ true)
  inside-nested zero a b c below over ina inb = absurd (omega (arith, over))
  inside-nested (suc n) a b c below over ina inb = inside-cases n a c below ina
      (λ same. inr (subst (λ p. is_inside places b p ≡ true) same (inside-same (suc n) (suc c) b c below over (omega arith) inb)))
      (λ q e less resta. inside-cases n b c below inb
      (λ same. inl (subst (λ p. is_inside places a p ≡ true) same (inside-same (suc n) (suc c) a c below over (omega arith) ina)))
      (λ r f less' restb. inside-nested n a b q (omega (arith, less, below)) (omega (arith, less, over)) resta
      (subst (λ p. inside n places b p ≡ true) (some-same r q (sym f ∙ e)) restb)))
    where
      some-same : (r q : ℕ) → Some r ≡ Some q → r ≡ q
      some-same r q same = ap (λ o. or_zero o) same

  -- of two places that a place is inside, one is inside the other
  pub is_inside-nested : (a b c : ℕ) → c < length places → is_inside places a c ≡ true → is_inside places b c ≡ true → (is_inside places a b ≡ true) ⊎ (is_inside places b a ≡ true)
  is_inside-nested a b c below ina inb = inside-nested (suc c) a b c below (omega arith) ina inb
