-- Where a search through a list finds nothing.
use Rattle.std.proofs.Common.{◌≡◌, ℕ, suc, ◌+◌, Bool, true, false, cond, Option, Some, None, List, [], ◌∷◌, map, find, refl, sym, ◌∙◌, ap, arith, All}
use Rattle.std.specs.List.{position_from, flat_map}
use Rattle.std.specs.Option.{option_map, option_or}
use Rattle.std.proofs.lemmas.Bool.{cond-false}
use Rattle.std.proofs.lemmas.List.Elements.{All-cons}
use Rattle.std.proofs.lemmas.Option.{none-some}

cond-none : {X : Type 0} (b : Bool) (x : X) (o : Option X) → cond b (Some x) o ≡ None → (b ≡ false) × (o ≡ None)
cond-none true x o none = absurd (none-some x (sym none))
cond-none false x o none = (refl, none)

none-cond : {X : Type 0} (b : Bool) (x : X) (o : Option X) → b ≡ false → o ≡ None → cond b (Some x) o ≡ None
none-cond b x o fails none = cond-false b (Some x) o fails ∙ none

-- what fails the test everywhere isn't found, and the other way round
pub find-none : {X : Type 0} (p : X → Bool) (xs : List X) → find p xs ≡ None → All (λ x. p x ≡ false) xs
find-none p [] none = λ k d below. absurd (omega arith)
find-none p (x ∷ xs) none =
    let parts = cond-none (p x) x (find p xs) none in
    All-cons (λ y. p y ≡ false) x xs parts.0 (find-none p xs parts.1)

pub none-find : {X : Type 0} (p : X → Bool) (xs : List X) → All (λ x. p x ≡ false) xs → find p xs ≡ None
none-find p [] all = refl
none-find p (x ∷ xs) all = none-cond (p x) x (find p xs) (all 0 x (omega arith)) (none-find p xs (λ k d below. all (suc k) d (omega arith)))

pub position_from-none : {X : Type 0} (p : X → Bool) (start : ℕ) (xs : List X) → position_from p start xs ≡ None → All (λ x. p x ≡ false) xs
position_from-none p start [] none = λ k d below. absurd (omega arith)
position_from-none p start (x ∷ xs) none =
    let parts = cond-none (p x) start (position_from p (start + 1) xs) none in
    All-cons (λ y. p y ≡ false) x xs parts.0 (position_from-none p (start + 1) xs parts.1)

pub none-position_from : {X : Type 0} (p : X → Bool) (start : ℕ) (xs : List X) → All (λ x. p x ≡ false) xs → position_from p start xs ≡ None
none-position_from p start [] all = refl
none-position_from p start (x ∷ xs) all =
    none-cond (p x) start (position_from p (start + 1) xs) (all 0 x (omega arith)) (none-position_from p (start + 1) xs (λ k d below. all (suc k) d (omega arith)))

pub find_map-none : {X Y : Type 0} (p : Y → Bool) (f : X → Y) (xs : List X) → find p (map f xs) ≡ None → All (λ x. p (f x) ≡ false) xs
find_map-none p f [] none = λ k d below. absurd (omega arith)
find_map-none p f (x ∷ xs) none =
    let parts = cond-none (p (f x)) (f x) (find p (map f xs)) none in
    All-cons (λ y. p (f y) ≡ false) x xs parts.0 (find_map-none p f xs parts.1)

pub none-find_map : {X Y : Type 0} (p : Y → Bool) (f : X → Y) (xs : List X) → All (λ x. p (f x) ≡ false) xs → find p (map f xs) ≡ None
none-find_map p f [] all = refl
none-find_map p f (x ∷ xs) all =
    none-cond (p (f x)) (f x) (find p (map f xs)) (all 0 x (omega arith)) (none-find_map p f xs (λ k d below. all (suc k) d (omega arith)))

-- the same for two parts of each element
pub find_pairs-none : {X Y : Type 0} (p : Y → Bool) (f g : X → Y) (xs : List X) → find p (flat_map (λ x. f x ∷ g x ∷ []) xs) ≡ None
    → All (λ x. (p (f x) ≡ false) × (p (g x) ≡ false)) xs
find_pairs-none p f g [] none = λ k d below. absurd (omega arith)
find_pairs-none p f g (x ∷ xs) none =
    let first = cond-none (p (f x)) (f x) (find p (g x ∷ flat_map (λ y. f y ∷ g y ∷ []) xs)) none in
    let second = cond-none (p (g x)) (g x) (find p (flat_map (λ y. f y ∷ g y ∷ []) xs)) first.1 in
    All-cons (λ y. (p (f y) ≡ false) × (p (g y) ≡ false)) x xs (first.0, second.0) (find_pairs-none p f g xs second.1)

pub none-find_pairs : {X Y : Type 0} (p : Y → Bool) (f g : X → Y) (xs : List X) → All (λ x. (p (f x) ≡ false) × (p (g x) ≡ false)) xs
    → find p (flat_map (λ x. f x ∷ g x ∷ []) xs) ≡ None
none-find_pairs p f g [] all = refl
none-find_pairs p f g (x ∷ xs) all =
    let here = all 0 x (omega arith) in
    none-cond (p (f x)) (f x) (find p (g x ∷ flat_map (λ y. f y ∷ g y ∷ []) xs)) here.0
    (none-cond (p (g x)) (g x) (find p (flat_map (λ y. f y ∷ g y ∷ []) xs)) here.1 (none-find_pairs p f g xs (λ k d below. all (suc k) d (omega arith))))

pub option_or-none : {X : Type 0} (o q : Option X) → option_or o q ≡ None → (o ≡ None) × (q ≡ None)
option_or-none None q none = (refl, none)
option_or-none (Some x) q none = absurd (none-some x (sym none))

pub none-option_or : {X : Type 0} (o q : Option X) → o ≡ None → q ≡ None → option_or o q ≡ None
none-option_or o q first second = rw first second

pub option_map-none : {X Y : Type 0} (f : X → Y) (o : Option X) → option_map f o ≡ None → o ≡ None
option_map-none f None none = refl
option_map-none f (Some x) none = absurd (none-some (f x) (sym none))

pub none-option_map : {X Y : Type 0} (f : X → Y) (o : Option X) → o ≡ None → option_map f o ≡ None
none-option_map f o none = ap (option_map f) none
