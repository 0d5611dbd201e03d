-- Lists that are made from some elements of a list.
use Rattle.std.specs.Prelude.{zero, suc}
use Rattle.std.specs.List.{All, AllPairs, Contains, filter_map}
use Rattle.std.specs.List.{cons_option}
use Rattle.std.proofs.Common.{◌≡◌, ℕ, ◌+◌, ◌<◌, ◌⊎◌, List, [], ◌∷◌, ◌++◌, length, get_or, Option, Some, None, refl, sym, ap, subst, ◌∙◌, inl, inr, arith}
use Rattle.std.proofs.lemmas.Option.{same_Some, none-some}
use Rattle.std.proofs.lemmas.List.Elements.{All-nil, All-cons, All-head, All-tail}

contains-at : {X : Type 0} (x : X) (xs : List X) (z : X) (k : ℕ) → k < length (x ∷ xs) → get_or (x ∷ xs) k z ≡ z → (x ≡ z) ⊎ Contains xs z
contains-at x xs z zero below is = inl is
contains-at x xs z (suc k) below is = inr (k, omega (arith, below), is)

-- an element is the first or among the others
pub contains_cases : {X : Type 0} (x : X) (xs : List X) (z : X) → Contains (x ∷ xs) z → (x ≡ z) ⊎ Contains xs z
contains_cases x xs z found = contains-at x xs z found.0 found.1 found.2

pub contains_nil : {X : Type 0} (z : X) → Contains [] z → ⊥
contains_nil z found = (let below = found.1 in omega (arith, below))

pub contains_first : {X : Type 0} (x : X) (xs : List X) → Contains (x ∷ xs) x
contains_first x xs = (0, omega arith, refl)

pub contains_later : {X : Type 0} (x : X) (xs : List X) (z : X) → Contains xs z → Contains (x ∷ xs) z
contains_later x xs z found = (suc found.0, (let below = found.1 in omega (arith, below)), found.2)

pairs-head : {X : Type 0} (R : X → X → Type 0) (x : X) (xs : List X) → AllPairs R (x ∷ xs) → All (R x) xs
pairs-head R x xs pairs = λ k d below. pairs 0 (suc k) d (omega arith) (omega (arith, below))

pairs-tail : {X : Type 0} (R : X → X → Type 0) (x : X) (xs : List X) → AllPairs R (x ∷ xs) → AllPairs R xs
pairs-tail R x xs pairs = λ i j d less below. pairs (suc i) (suc j) d (omega (arith, less)) (omega (arith, below))

pairs-at : {X : Type 0} (R : X → X → Type 0) (x : X) (xs : List X) → All (R x) xs → AllPairs R xs → (i j : ℕ) (d : X) → i < j → j < length (x ∷ xs) → R (get_or (x ∷ xs) i d) (get_or (x ∷ xs) j d)
pairs-at R x xs first rest zero zero d less below = absurd (omega (arith, less))
pairs-at R x xs first rest zero (suc j) d less below = first j d (omega (arith, below))
pairs-at R x xs first rest (suc i) zero d less below = absurd (omega (arith, less))
pairs-at R x xs first rest (suc i) (suc j) d less below = rest i j d (omega (arith, less)) (omega (arith, below))

pub pairs-cons : {X : Type 0} (R : X → X → Type 0) (x : X) (xs : List X) → All (R x) xs → AllPairs R xs → AllPairs R (x ∷ xs)
pairs-cons R x xs first rest = pairs-at R x xs first rest

pub pairs-nil : {X : Type 0} (R : X → X → Type 0) → AllPairs R []
pairs-nil R = λ i j d less below. absurd (omega (arith, below))

module _ {X Y : Type 0} (h : X → Option Y) where
  all-by : (Q : Y → Type 0) (o : Option Y) (ys : List Y) → ((y : Y) → o ≡ Some y → Q y) → All Q ys → All Q (cons_option o ys)
  all-by Q None ys here rest = rest
  all-by Q (Some y) ys here rest = All-cons Q y ys (here y refl) rest

  -- what holds of each element that is taken
  pub filter_map-All : (P : X → Type 0) (Q : Y → Type 0) → ((x : X) (y : Y) → P x → h x ≡ Some y → Q y) → (xs : List X) → All P xs → All Q (filter_map h xs)
  filter_map-All P Q step [] each = All-nil Q
  filter_map-All P Q step (x ∷ xs) each = all-by Q (h x) (filter_map h xs) (λ y is. step x y (All-head P x xs each) is) (filter_map-All P Q step xs (All-tail P x xs each))

  contains-by : (o : Option Y) (ys : List Y) (y : Y) → o ≡ Some y → Contains (cons_option o ys) y
  contains-by None ys y is = absurd (none-some y is)
  contains-by (Some z) ys y is = subst (λ w. Contains (w ∷ ys) y) (sym (same_Some z y is)) (contains_first y ys)

  contains-rest : (o : Option Y) (ys : List Y) (y : Y) → Contains ys y → Contains (cons_option o ys) y
  contains-rest None ys y found = found
  contains-rest (Some z) ys y found = contains_later z ys y found

  -- what an element gives is among what is taken
  pub filter_map-Contains : (xs : List X) (x : X) (y : Y) → Contains xs x → h x ≡ Some y → Contains (filter_map h xs) y
  filter_map-Contains [] x y found is = absurd (contains_nil x found)
  filter_map-Contains (z ∷ zs) x y found is = elim (contains_cases z zs x found) [
    | inl same ↦ contains-by (h z) (filter_map h zs) y (ap h same ∙ is)
    | inr later ↦ contains-rest (h z) (filter_map h zs) y (filter_map-Contains zs x y later is)
  ]

  pairs-by : (S : Y → Y → Type 0) (o : Option Y) (ys : List Y) → ((y : Y) → o ≡ Some y → All (S y) ys) → AllPairs S ys → AllPairs S (cons_option o ys)
  pairs-by S None ys first rest = rest
  pairs-by S (Some y) ys first rest = pairs-cons S y ys (first y refl) rest

  -- what holds of each two
  pub filter_map-AllPairs : (R : X → X → Type 0) (S : Y → Y → Type 0) → ((x z : X) (y w : Y) → R x z → h x ≡ Some y → h z ≡ Some w → S y w) → (xs : List X) → AllPairs R xs → AllPairs S (filter_map h xs)
  filter_map-AllPairs R S step [] pairs = pairs-nil S
  filter_map-AllPairs R S step (x ∷ xs) pairs = pairs-by S (h x) (filter_map h xs)
      (λ y is. filter_map-All (R x) (S y) (λ z w related gives. step x z y w related is gives) xs (pairs-head R x xs pairs))
      (filter_map-AllPairs R S step xs (pairs-tail R x xs pairs))
