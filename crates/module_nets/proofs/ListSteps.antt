-- One more element of a list, and what a search finds behind it.
use Rattle.std.proofs.Common.{◌≡◌, ℕ, suc, ◌+◌, ◌<◌, Bool, true, false, Option, Some, None, List, [], ◌∷◌, ◌++◌, take, drop, get_or, length, find, zero, filter, refl, sym, ap, ◌∙◌, subst, inl, inr, ◌⊎◌, arith, if◌then◌else◌}
use Rattle.std.specs.Prelude.{is_some}
use Rattle.std.specs.List.{position_from}
use Rattle.std.specs.Option.{option_or}
use Rattle.std.proofs.lemmas.List.{take_more, drop_more}
use Rattle.std.proofs.lemmas.Option.{none-some, same_Some}
use Rattle.module_nets.proofs.Bytes.{by_test}

pub take_one : {X : Type 0} (xs : List X) (i : ℕ) (x : X) → i < length xs → x ≡ get_or xs i x → take (i + 1) xs ≡ take i xs ++ x ∷ []
take_one xs i x within is = take_more xs i x within ∙ ap (λ y. take i xs ++ y ∷ []) (sym is)

pub drop_one : {X : Type 0} (xs : List X) (i : ℕ) (x : X) → i < length xs → x ≡ get_or xs i x → drop i xs ≡ x ∷ drop (i + 1) xs
drop_one xs i x within is = drop_more xs i x within ∙ ap (λ y. y ∷ drop (i + 1) xs) (sym is)

pub or_none : {X : Type 0} (o : Option X) → option_or o None ≡ o
or_none None = refl
or_none (Some x) = refl

pub or_assoc : {X : Type 0} (a b c : Option X) → option_or (option_or a b) c ≡ option_or a (option_or b c)
or_assoc None b c = refl
or_assoc (Some x) b c = refl

pub position_from-last : {X : Type 0} (test : X → Bool) (start n : ℕ) (xs : List X) (x : X) → start + length xs ≡ n
    → position_from test start (xs ++ x ∷ []) ≡ option_or (position_from test start xs) (if test x then Some n else None)
position_from-last test start n [] x is = let same : start ≡ n = omega (arith, is) in rw same refl
position_from-last test start n (y ∷ xs) x is = by_test (test y) (λ h. rw h refl) (λ h. rw h (position_from-last test (start + 1) n xs x (omega (arith, is))))

pub none_of : {X : Type 0} (o : Option X) → is_some o ≡ false → o ≡ None
none_of None none = refl
none_of (Some x) some = absurd (cc)

-- the first element that passes a test, and its place
pub record IsFirstAt {X : Type 0} (test : X → Bool) (start : ℕ) (xs : List X) (j : ℕ) : Type 0 where
  pub place : position_from test start xs ≡ Some (start + j)
  pub within : j < length xs
  pub element : (d : X) → find test xs ≡ Some (get_or xs j d)
  pub passes : (d : X) → test (get_or xs j d) ≡ true

pub record IsNowhere {X : Type 0} (test : X → Bool) (start : ℕ) (xs : List X) : Type 0 where
  pub place : position_from test start xs ≡ None
  pub element : find test xs ≡ None

first_later : {X : Type 0} (test : X → Bool) (start : ℕ) (x : X) (xs : List X) → test x ≡ false → (j : ℕ) → IsFirstAt test (start + 1) xs j → IsFirstAt test start (x ∷ xs) (suc j)
first_later test start x xs fails j later =
    let on : start + 1 + j ≡ start + suc j = omega arith in
    record {
      place = rw fails (later.place ∙ ap (λ k. Some k) on);
      within = omega (arith, later.within);
      element = λ d. rw fails (later.element d);
      passes = later.passes;
    }

first_here : {X : Type 0} (test : X → Bool) (start : ℕ) (x : X) (xs : List X) → test x ≡ true → IsFirstAt test start (x ∷ xs) 0
first_here test start x xs holds =
    let on : start ≡ start + 0 = omega arith in
    record {
      place = rw holds (ap (λ k. Some k) on);
      within = omega arith;
      element = λ d. rw holds refl;
      passes = λ d. holds;
    }

pub first_place : {X : Type 0} (test : X → Bool) (start : ℕ) (xs : List X) → IsNowhere test start xs ⊎ ((j : ℕ) × IsFirstAt test start xs j)
first_place test start [] = inl (record { place = refl; element = refl })
first_place test start (x ∷ xs) =
    by_test (test x)
    (λ holds. inr (0, first_here test start x xs holds))
    (λ fails. elim (first_place test (start + 1) xs) as (λ _. IsNowhere test start (x ∷ xs) ⊎ ((j : ℕ) × IsFirstAt test start (x ∷ xs) j)) [
      | inl nowhere ↦ inl (record { place = rw fails nowhere.place; element = rw fails nowhere.element })
      | inr first ↦ inr (suc first.0, first_later test start x xs fails first.0 first.1)
    ])

-- a place that was found
pub at_place : {X : Type 0} (test : X → Bool) (xs : List X) (k : ℕ) → position_from test 0 xs ≡ Some k → IsFirstAt test 0 xs k
at_place test xs k is =
    elim (first_place test 0 xs) as (λ _. IsFirstAt test 0 xs k) [
      | inl nowhere ↦ absurd (none-some k (sym nowhere.place ∙ is))
      | inr first ↦
          let same : 0 + first.0 ≡ k = same_Some (0 + first.0) k (sym first.1.place ∙ is) in
          let P : ℕ → Type 0 = IsFirstAt test 0 xs in
          subst P (omega (arith, same)) first.1
    ]

pub no_place : {X : Type 0} (test : X → Bool) (xs : List X) → position_from test 0 xs ≡ None → find test xs ≡ None
no_place test xs is =
    elim (first_place test 0 xs) as (λ _. find test xs ≡ None) [
      | inl nowhere ↦ nowhere.element
      | inr first ↦ absurd (none-some (0 + first.0) (sym is ∙ first.1.place))
    ]

-- a place that was found from a start on
pub at_start : {X : Type 0} (test : X → Bool) (start : ℕ) (xs : List X) (k : ℕ) → position_from test start xs ≡ Some k → (j : ℕ) × ((start + j ≡ k) × IsFirstAt test start xs j)
at_start test start xs k is =
    elim (first_place test start xs) as (λ _. (j : ℕ) × ((start + j ≡ k) × IsFirstAt test start xs j)) [
      | inl nowhere ↦ absurd (none-some k (sym nowhere.place ∙ is))
      | inr first ↦ (first.0, (same_Some (start + first.0) k (sym first.1.place ∙ is), first.1))
    ]

-- what passes a test, by the first that does
pub filter_none : {X : Type 0} (test : X → Bool) (start : ℕ) (xs : List X) → position_from test start xs ≡ None → filter test xs ≡ []
filter_none test start [] none = refl
filter_none test start (x ∷ xs) none =
    by_test (test x)
    (λ holds. absurd (none-some start (sym none ∙ rw holds refl)))
    (λ fails. rw fails (filter_none test (start + 1) xs (rw fails at none)))

pub filter_first : {X : Type 0} (test : X → Bool) (start : ℕ) (xs : List X) (j : ℕ) (d : X) → IsFirstAt test start xs j → filter test xs ≡ get_or xs j d ∷ filter test (drop (j + 1) xs)
filter_first test start [] j d first = absurd (omega (arith, first.within))
filter_first test start (x ∷ xs) zero d first = let holds : test x ≡ true = first.passes d in rw holds refl
filter_first test start (x ∷ xs) (suc j) d first =
    by_test (test x)
    (λ holds. absurd (let same : start ≡ start + suc j = same_Some start (start + suc j) (sym (rw holds refl) ∙ first.place) in omega (arith, same)))
    (λ fails.
    let place : position_from test (start + 1) xs ≡ Some (start + suc j) = rw fails at first.place in
    let on : start + suc j ≡ start + 1 + j = omega arith in
    let later = at_start test (start + 1) xs (start + 1 + j) (place ∙ ap (λ k. Some k) on) in
    let same : later.0 ≡ j = omega (arith, later.1.0) in
    let P : ℕ → Type 0 = IsFirstAt test (start + 1) xs in
    let less : suc j + 1 ≡ suc (j + 1) = omega arith in
    rw fails (filter_first test (start + 1) xs j d (subst P same later.1.1) ∙ ap (λ n. get_or xs j d ∷ filter test (drop n (x ∷ xs))) (sym less)))
