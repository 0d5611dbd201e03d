-- Searches for texts by where they stand.
use Rattle.std.proofs.Common.{◌≡◌, ℕ, zero, suc, ◌+◌, ◌<◌, ◌≤◌, ◌==◌, Bool, true, false, Option, Some, None, List, [], ◌∷◌, ◌++◌, get_or, length, map, find, filter, refl, sym, ap, ◌∙◌, subst, arith, if◌then◌else◌}
use Rattle.std.specs.List.{position_from}
use Rattle.std.specs.Option.{option_map}
use Rattle.std.specs.Str.{bytes_eq}
use Rattle.std.proofs.lemmas.Bool.Decides.{Decides-eqb}
use Rattle.std.proofs.lemmas.Option.{none-some, same_Some}
use Rattle.bud_design.specs.Lists.{only}
use Rattle.text_tables.specs.Standings.{standing}
use Rattle.text_tables.specs.declared.standings.Standing.{Standing}
use Rattle.text_tables.proofs.Texts.{by_test}

-- a search among elements by their texts
pub position-texts : {X : Type 0} (f : X → List ℕ) (q : List ℕ) (k : ℕ) (xs : List X) → position_from (λ t. bytes_eq t q) k (map f xs) ≡ position_from (λ x. bytes_eq (f x) q) k xs
position-texts f q k [] = refl
position-texts f q k (x ∷ xs) = by_test (bytes_eq (f x) q) (λ h. rw h refl) (λ h. rw h (position-texts f q (k + 1) xs))

filter-texts : {X : Type 0} (f : X → List ℕ) (q : List ℕ) (xs : List X) → length (filter (λ t. bytes_eq t q) (map f xs)) ≡ length (filter (λ x. bytes_eq (f x) q) xs)
filter-texts f q [] = refl
filter-texts f q (x ∷ xs) = by_test (bytes_eq (f x) q) (λ h. rw h (ap (λ n. suc n) (filter-texts f q xs))) (λ h. rw h (filter-texts f q xs))

-- the number of the first, and the first
pub position-within : {X : Type 0} (p : X → Bool) (k : ℕ) (xs : List X) (i : ℕ) → position_from p k xs ≡ Some i → (k ≤ i) × (i < k + length xs)
position-within p k [] i is = absurd (cc)
position-within p k (x ∷ xs) i is =
    by_test (p x)
    (λ h. let same : k ≡ i = same_Some k i (sym (rw h refl) ∙ is) in (omega (arith, same), omega (arith, same)))
    (λ h. let later = position-within p (k + 1) xs i (rw h at is) in (omega (arith, later.0), omega (arith, later.1)))

pub position-found : {X : Type 0} (p : X → Bool) (k : ℕ) (xs : List X) (i j : ℕ) (d : X) → position_from p k xs ≡ Some i → i ≡ k + j → find p xs ≡ Some (get_or xs j d)
position-found p k [] i j d is on = absurd (cc)
position-found p k (x ∷ xs) i zero d is on =
    by_test (p x)
    (λ h. rw h refl)
    (λ h. let later = position-within p (k + 1) xs i (rw h at is) in absurd (omega (arith, later.0, on)))
position-found p k (x ∷ xs) i (suc j) d is on =
    by_test (p x)
    (λ h. let same : k ≡ i = same_Some k i (sym (rw h refl) ∙ is) in absurd (omega (arith, same, on)))
    (λ h. rw h (position-found p (k + 1) xs i j d (rw h at is) (omega (arith, on))))

pub position-none : {X : Type 0} (p : X → Bool) (k : ℕ) (xs : List X) → position_from p k xs ≡ None → find p xs ≡ None
position-none p k [] none = refl
position-none p k (x ∷ xs) none = by_test (p x) (λ h. absurd (none-some k (sym none ∙ rw h refl))) (λ h. rw h (position-none p (k + 1) xs (rw h at none)))

pub filter-none : {X : Type 0} (p : X → Bool) (xs : List X) → find p xs ≡ None → filter p xs ≡ []
filter-none p [] none = refl
filter-none p (x ∷ xs) none = by_test (p x) (λ h. absurd (none-some x (sym none ∙ rw h refl))) (λ h. rw h (filter-none p xs (rw h at none)))

-- the first leads those that pass
filter-first : {X : Type 0} (p : X → Bool) (xs : List X) (y : X) → find p xs ≡ Some y → (ys : List X) × (filter p xs ≡ y ∷ ys)
filter-first p [] y is = absurd (cc)
filter-first p (x ∷ xs) y is =
    by_test (p x)
    (λ h. let same : x ≡ y = same_Some x y (sym (rw h refl) ∙ is) in (filter p xs, rw (h, same) refl))
    (λ h. let later = filter-first p xs y (rw h at is) in (later.0, rw h later.1))

only-one : {X : Type 0} (xs : List X) (y : X) (ys : List X) → xs ≡ y ∷ ys → only xs ≡ (if length xs == 1 then Some y else None)
only-one xs y [] is = rw is refl
only-one xs y (z ∷ zs) is = let more : (suc (suc (length zs)) == 1) ≡ false = grind arith in rw is (ap (λ b. if b then Some y else None) (sym more))

-- ---- what a standing tells of elements by their texts
pub record Stands {X : Type 0} (f : X → List ℕ) (q : List ℕ) (xs : List X) (s : Standing) : Type 0 where
  pub within : s.first < length xs
  pub first : (d : X) → find (λ x. bytes_eq (f x) q) xs ≡ Some (get_or xs s.first d)
  pub sole : (d : X) → only (filter (λ x. bytes_eq (f x) q) xs) ≡ (if s.alone then Some (get_or xs s.first d) else None)

stands-at : {X : Type 0} (f : X → List ℕ) (q : List ℕ) (xs : List X) (i : ℕ) → position_from (λ x. bytes_eq (f x) q) 0 xs ≡ Some i
    → Stands f q xs (record { first = i; alone = length (filter (λ t. bytes_eq t q) (map f xs)) == 1 })
stands-at {X} f q xs i is =
    let within = position-within (λ x. bytes_eq (f x) q) 0 xs i is in
    let found : (d : X) → find (λ x. bytes_eq (f x) q) xs ≡ Some (get_or xs i d) = λ d. position-found (λ x. bytes_eq (f x) q) 0 xs i i d is (omega arith) in
    record {
      within = omega (arith, within.1);
      first = found;
      sole = λ d.
          let leads = filter-first (λ x. bytes_eq (f x) q) xs (get_or xs i d) (found d) in
          only-one (filter (λ x. bytes_eq (f x) q) xs) (get_or xs i d) leads.0 leads.1
          ∙ ap (λ n. if n == 1 then Some (get_or xs i d) else None) (sym (filter-texts f q xs));
    }

pub stands-some : {X : Type 0} (f : X → List ℕ) (q : List ℕ) (xs : List X) (s : Standing) → standing (map f xs) q ≡ Some s → Stands f q xs s
stands-some {X} f q xs s is = by_place (position_from (λ t. bytes_eq t q) 0 (map f xs)) refl
  where
    alone : Bool
    alone = length (filter (λ t. bytes_eq t q) (map f xs)) == 1

    by_place : (o : Option ℕ) → position_from (λ t. bytes_eq t q) 0 (map f xs) ≡ o → Stands f q xs s
    by_place None e = absurd (none-some s (sym (ap (option_map (λ i. record { first = i; alone = alone })) e) ∙ is))
    by_place (Some i) e =
        let same : record { first = i; alone = alone } ≡ s = same_Some (record { first = i; alone = alone }) s (sym (ap (option_map (λ i. record { first = i; alone = alone })) e) ∙ is) in
        let P : Standing → Type 0 = Stands f q xs in
        subst P same (stands-at f q xs i (sym (position-texts f q 0 xs) ∙ e))

pub stands-none : {X : Type 0} (f : X → List ℕ) (q : List ℕ) (xs : List X) → standing (map f xs) q ≡ None → find (λ x. bytes_eq (f x) q) xs ≡ None
stands-none {X} f q xs is = by_place (position_from (λ t. bytes_eq t q) 0 (map f xs)) refl
  where
    alone : Bool
    alone = length (filter (λ t. bytes_eq t q) (map f xs)) == 1

    by_place : (o : Option ℕ) → position_from (λ t. bytes_eq t q) 0 (map f xs) ≡ o → find (λ x. bytes_eq (f x) q) xs ≡ None
    by_place None e = position-none (λ x. bytes_eq (f x) q) 0 xs (sym (position-texts f q 0 xs) ∙ e)
    by_place (Some i) e = absurd (none-some (record { first = i; alone = alone }) (sym is ∙ ap (option_map (λ i. record { first = i; alone = alone })) e))

-- the first number, where there is one
pub first-of : {X : Type 0} (f : X → List ℕ) (q : List ℕ) (xs : List X) → option_map (λ s. s.first) (standing (map f xs) q) ≡ position_from (λ x. bytes_eq (f x) q) 0 xs
first-of {X} f q xs = by_place (position_from (λ t. bytes_eq t q) 0 (map f xs)) refl ∙ position-texts f q 0 xs
  where
    by_place : (o : Option ℕ) → position_from (λ t. bytes_eq t q) 0 (map f xs) ≡ o
        → option_map (λ s. s.first) (standing (map f xs) q) ≡ position_from (λ t. bytes_eq t q) 0 (map f xs)
    by_place None e = rw e refl
    by_place (Some i) e = rw e refl
