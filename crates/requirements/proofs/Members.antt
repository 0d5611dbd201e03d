-- Members of mapped and filtered lists, and pairs of them.
use Rattle.std.proofs.Common.{◌≡◌, ℕ, zero, suc, ◌<◌, List, [], ◌∷◌, map, length, get_or, Option, Some, None, refl, sym, ◌∙◌, ap, subst, arith, inl, inr, ◌⊎◌}
use Rattle.std.specs.Prelude.{All, AllPairs, Contains, filter_map}
use Rattle.std.proofs.lemmas.Bool.{cases_eq, cases_lt}
use Rattle.std.proofs.lemmas.List.{length-map, get_or-map, get_or_default}
use Rattle.std.proofs.lemmas.List.Elements.{All-nil, All-cons, All-head, All-tail, All-map}
use Rattle.std.proofs.lemmas.List.Kept.{AllPairs-cons}
use Rattle.bud_design.proofs.ClassLaws.{pairs-head, pairs-tail}

none-some : {X : Type 0} (x : X) {P : Type 0} → None ≡ Some x → P
none-some x e = absurd (cc)

pub some-same : {X : Type 0} (x y : X) → Some x ≡ Some y → x ≡ y
some-same x y e = cc

contains-head : {X : Type 0} (x : X) (xs : List X) → Contains (x ∷ xs) x
contains-head x xs = (0, omega arith, refl)

contains-tail : {X : Type 0} (x : X) (xs : List X) (y : X) → Contains xs y → Contains (x ∷ xs) y
contains-tail x xs y has = (suc has.0, omega (arith, has.1), has.2)

at-cases : {X : Type 0} (x : X) (xs : List X) (y : X) (k : ℕ) → k < length (x ∷ xs) → get_or (x ∷ xs) k y ≡ y → (x ≡ y) ⊎ Contains xs y
at-cases x xs y zero below is = inl is
at-cases x xs y (suc k) below is = inr (k, omega (arith, below), is)

pub contains-cases : {X : Type 0} (x : X) (xs : List X) (y : X) → Contains (x ∷ xs) y → (x ≡ y) ⊎ Contains xs y
contains-cases x xs y has = at-cases x xs y has.0 has.1 has.2

-- where an element of a list of these comes from
pub record ComesFrom {X Y : Type 0} (f : X → Option Y) (xs : List X) (y : Y) : Type 0 where
  pub from : X
  pub member : Contains xs from
  pub gives : f from ≡ Some y

pub filter_map-from : {X Y : Type 0} (f : X → Option Y) (xs : List X) (y : Y) → Contains (filter_map f xs) y → ComesFrom f xs y
filter_map-from {Y = Y} f [] y has = absurd (omega (arith, has.1))
filter_map-from {Y = Y} f (x ∷ xs) y has = by_gift (f x) refl has (filter_map-from f xs y)
  where
    by_gift : (o : Option Y) → f x ≡ o → Contains (filter_map f (x ∷ xs)) y → (Contains (filter_map f xs) y → ComesFrom f xs y) → ComesFrom f (x ∷ xs) y
    by_gift None e has rest =
        let same : filter_map f (x ∷ xs) ≡ filter_map f xs = rw e refl in
        let found = rest (subst (λ (ys : List Y). Contains ys y) same has) in
        record { from = found.from; member = contains-tail x xs found.from found.member; gives = found.gives }
    by_gift (Some z) e has rest =
        let same : filter_map f (x ∷ xs) ≡ z ∷ filter_map f xs = rw e refl in
        elim (contains-cases z (filter_map f xs) y (subst (λ (ys : List Y). Contains ys y) same has)) [
          | inl here ↦ record { from = x; member = contains-head x xs; gives = e ∙ ap (λ w. Some w) here }
          | inr later ↦ (let found = rest later in record { from = found.from; member = contains-tail x xs found.from found.member; gives = found.gives })
        ]

pub filter_map-has : {X Y : Type 0} (f : X → Option Y) (xs : List X) (x : X) (y : Y) → Contains xs x → f x ≡ Some y → Contains (filter_map f xs) y
filter_map-has {Y = Y} f [] x y has e = absurd (omega (arith, has.1))
filter_map-has {Y = Y} f (w ∷ ws) x y has e = elim (contains-cases w ws x has) [
  | inl here ↦
      let same : filter_map f (w ∷ ws) ≡ y ∷ filter_map f ws = rw (ap f here ∙ e) refl in
      subst (λ (ys : List Y). Contains ys y) (sym same) (contains-head y (filter_map f ws))
  | inr later ↦ more (f w) refl (filter_map-has f ws x y later e)
]
  where
    more : (o : Option Y) → f w ≡ o → Contains (filter_map f ws) y → Contains (filter_map f (w ∷ ws)) y
    more None e has = (let same : filter_map f (w ∷ ws) ≡ filter_map f ws = rw e refl in subst (λ (ys : List Y). Contains ys y) (sym same) has)
    more (Some z) e has = (let same : filter_map f (w ∷ ws) ≡ z ∷ filter_map f ws = rw e refl in subst (λ (ys : List Y). Contains ys y) (sym same) (contains-tail z (filter_map f ws) y has))

pub contains-map : {X Y : Type 0} (f : X → Y) (xs : List X) (x : X) → Contains xs x → Contains (map f xs) (f x)
contains-map f xs x has = (has.0, omega (arith, has.1, length-map xs f), get_or-map f xs has.0 x (f x) has.1 ∙ ap f has.2)

pub pairs-map : {X Y : Type 0} (R : Y → Y → Type 0) (f : X → Y) (xs : List X) → AllPairs (λ x y. R (f x) (f y)) xs → AllPairs R (map f xs)
pairs-map R f [] all = λ i j d less below. absurd (omega (arith, below))
pairs-map R f (x ∷ xs) all =
    AllPairs-cons R (f x) (map f xs) (All-map (R (f x)) f xs (pairs-head (λ x y. R (f x) (f y)) x xs all)) (pairs-map R f xs (pairs-tail (λ x y. R (f x) (f y)) x xs all))

-- what members of a list with a pair relation are to each other
pub members-related : {X : Type 0} (R : X → X → Type 0) (xs : List X) (x y : X) → AllPairs R xs → Contains xs x → Contains xs y → (x ≡ y) ⊎ (R x y ⊎ R y x)
members-related R xs x y all hasx hasy = elim (order hasx.0 hasy.0) [
  | inl same ↦ inl (sym hasx.2 ∙ (get_or_default xs hasx.0 x y hasx.1 ∙ (ap (λ k. get_or xs k y) same ∙ hasy.2)))
  | inr differ ↦ elim differ [
    | inl less ↦ inr (inl (subst (λ a. R a y) hasx.2 (subst (λ b. R (get_or xs hasx.0 x) b) (get_or_default xs hasy.0 x y hasy.1 ∙ hasy.2) (all hasx.0 hasy.0 x less hasy.1))))
    | inr more ↦ inr (inr (subst (λ a. R a x) hasy.2 (subst (λ b. R (get_or xs hasy.0 y) b) (get_or_default xs hasx.0 y x hasx.1 ∙ hasx.2) (all hasy.0 hasx.0 y more hasx.1))))
  ]
]
  where
    order : (a b : ℕ) → (a ≡ b) ⊎ ((a < b) ⊎ (b < a))
    order a b = elim (cases_eq a b) [ inl same ↦ inl same | inr differs ↦ elim (cases_lt a b) [ inl less ↦ inr (inl less) | inr more ↦ inr (inr (omega (arith, more, differs))) ] ]

all-given : {X Y : Type 0} (P : X → Type 0) (Q : Y → Type 0) (f : X → Option Y) → ((x : X) (y : Y) → P x → f x ≡ Some y → Q y) → (xs : List X) → All P xs → All Q (filter_map f xs)
all-given {Y = Y} P Q f on [] all = All-nil Q
all-given {Y = Y} P Q f on (x ∷ xs) all = by_gift (f x) refl (all-given P Q f on xs (All-tail P x xs all)) (All-head P x xs all)
  where
    by_gift : (o : Option Y) → f x ≡ o → All Q (filter_map f xs) → P x → All Q (filter_map f (x ∷ xs))
    by_gift None e rest here = (let same : filter_map f (x ∷ xs) ≡ filter_map f xs = rw e refl in subst (All Q) (sym same) rest)
    by_gift (Some y) e rest here = (let same : filter_map f (x ∷ xs) ≡ y ∷ filter_map f xs = rw e refl in subst (All Q) (sym same) (All-cons Q y (filter_map f xs) (on x y here e) rest))

-- pairs of what is given, where pairs of what gives it are related so
pub filter_map-pairs : {X Y : Type 0} (R : X → X → Type 0) (S : Y → Y → Type 0) (f : X → Option Y) → ((x z : X) (a b : Y) → R x z → f x ≡ Some a → f z ≡ Some b → S a b)
    → (xs : List X) → AllPairs R xs → AllPairs S (filter_map f xs)
filter_map-pairs {Y = Y} R S f on [] all = λ i j d less below. absurd (omega (arith, below))
filter_map-pairs {Y = Y} R S f on (x ∷ xs) all = by_gift (f x) refl (filter_map-pairs R S f on xs (pairs-tail R x xs all)) (pairs-head R x xs all)
  where
    by_gift : (o : Option Y) → f x ≡ o → AllPairs S (filter_map f xs) → All (R x) xs → AllPairs S (filter_map f (x ∷ xs))
    by_gift None e rest all = (let same : filter_map f (x ∷ xs) ≡ filter_map f xs = rw e refl in subst (AllPairs S) (sym same) rest)
    by_gift (Some a) e rest all = (let same : filter_map f (x ∷ xs) ≡ a ∷ filter_map f xs = rw e refl in subst (AllPairs S) (sym same) (AllPairs-cons S a (filter_map f xs) (all-given (R x) (S a) f (λ z b r gives. on x z a b r e gives) xs all) rest))
