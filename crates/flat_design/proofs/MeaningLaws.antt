-- What a name means among numbered objects, by searches from a number on.
use Rattle.std.specs.Prelude.{◌≡◌, ℕ, zero, suc, ◌<◌, ◌≤◌, ◌+◌, ◌-◌, Bool, true, false, List, [], ◌∷◌, map, filter, find, Some, None}
use Rattle.std.specs.List.{range_with_len}
use Rattle.std.specs.Option.{option_or}
use Rattle.std.specs.Str.{bytes_eq}
use Rattle.std.proofs.Common.{arith, ◌∙◌, refl, ap, subst}
use Rattle.bud_design.specs.Lists.{only}
use Rattle.bud_design.specs.Names.{Named, object_of, meaning, plain}
use Rattle.name_tables.proofs.Finding.{found-below}

filter-none : (q : ℕ → Bool) (xs : List ℕ) → find q xs ≡ None → filter q xs ≡ []
filter-none q [] none = refl
filter-none q (x ∷ xs) none = by_test (q x) refl none (filter-none q xs)
  where
    by_test : (b : Bool) → q x ≡ b → find q (x ∷ xs) ≡ None → (find q xs ≡ None → filter q xs ≡ []) → filter q (x ∷ xs) ≡ []
    by_test true e none rest = absurd (let found : find q (x ∷ xs) ≡ Some x = rw e refl in cc)
    by_test false e none rest = rw e (rest (rw e at none))

filter-some : (q : ℕ → Bool) (k m v : ℕ) → find q (range_with_len k m) ≡ Some v → filter q (range_with_len k m) ≡ v ∷ filter q (range_with_len (v + 1) (k + m - (v + 1)))
filter-some q k zero v found = absurd (cc)
filter-some q k (suc m) v found = by_test (q k) refl found (filter-some q (k + 1) m v)
  where
    by_test : (b : Bool) → q k ≡ b → find q (range_with_len k (suc m)) ≡ Some v
        → (find q (range_with_len (k + 1) m) ≡ Some v → filter q (range_with_len (k + 1) m) ≡ v ∷ filter q (range_with_len (v + 1) (k + 1 + m - (v + 1))))
        → filter q (range_with_len k (suc m)) ≡ v ∷ filter q (range_with_len (v + 1) (k + suc m - (v + 1)))
    by_test true e found rest =
        let here : find q (range_with_len k (suc m)) ≡ Some k = rw e refl in
        let same : k ≡ v = cc in
        let left : m ≡ k + suc m - (k + 1) = omega arith in
        subst (λ v. filter q (range_with_len k (suc m)) ≡ v ∷ filter q (range_with_len (v + 1) (k + suc m - (v + 1)))) same
        (rw e (ap (λ m. k ∷ filter q (range_with_len (k + 1) m)) left))
    by_test false e found rest =
        let left : k + 1 + m - (v + 1) ≡ k + suc m - (v + 1) = omega arith in
        rw e (rest (rw e at found) ∙ ap (λ m. v ∷ filter q (range_with_len (v + 1) m)) left)

-- the only one, by the first from a number on and the first behind it
pub only-none : (q : ℕ → Bool) (k n : ℕ) → find q (range_with_len k (n - k)) ≡ None → only (filter q (range_with_len k (n - k))) ≡ None
only-none q k n none = ap only (filter-none q (range_with_len k (n - k)) none)

filter-first : (q : ℕ → Bool) (k n v : ℕ) → find q (range_with_len k (n - k)) ≡ Some v → filter q (range_with_len k (n - k)) ≡ v ∷ filter q (range_with_len (v + 1) (n - (v + 1)))
filter-first q k n v found =
    let within = found-below q k (n - k) v found in
    let left : k + (n - k) - (v + 1) ≡ n - (v + 1) = omega (arith, within.0, within.1) in
    filter-some q k (n - k) v found ∙ ap (λ m. v ∷ filter q (range_with_len (v + 1) m)) left

pub only-one : (q : ℕ → Bool) (k n v : ℕ) → find q (range_with_len k (n - k)) ≡ Some v → find q (range_with_len (v + 1) (n - (v + 1))) ≡ None → only (filter q (range_with_len k (n - k))) ≡ Some v
only-one q k n v found none = ap only (filter-first q k n v found ∙ ap (λ xs. v ∷ xs) (filter-none q (range_with_len (v + 1) (n - (v + 1))) none))

pub only-two : (q : ℕ → Bool) (k n v w : ℕ) → find q (range_with_len k (n - k)) ≡ Some v → find q (range_with_len (v + 1) (n - (v + 1))) ≡ Some w → only (filter q (range_with_len k (n - k))) ≡ None
only-two q k n v w found again = ap only (filter-first q k n v found ∙ ap (λ xs. v ∷ xs) (filter-first q (v + 1) n w again))

-- ---- objects that are their numbers
abbrev pub named : (ℕ → List ℕ) → ℕ → Named ℕ
named f v = record { name = f v; object = v }

find-named : (f : ℕ → List ℕ) (xs : List ℕ) (name : List ℕ) → object_of (find (λ o. bytes_eq o.name name) (map (named f) xs)) ≡ find (λ v. bytes_eq (f v) name) xs
find-named f [] name = refl
find-named f (x ∷ xs) name = by_test (bytes_eq (f x) name) refl (find-named f xs name)
  where
    by_test : (b : Bool) → bytes_eq (f x) name ≡ b → object_of (find (λ o. bytes_eq o.name name) (map (named f) xs)) ≡ find (λ v. bytes_eq (f v) name) xs
        → object_of (find (λ o. bytes_eq o.name name) (map (named f) (x ∷ xs))) ≡ find (λ v. bytes_eq (f v) name) (x ∷ xs)
    by_test true e rest = rw e refl
    by_test false e rest = rw e rest

filter-named : (f : ℕ → List ℕ) (xs : List ℕ) (name : List ℕ) → filter (λ o. bytes_eq (plain o.name) name) (map (named f) xs) ≡ map (named f) (filter (λ v. bytes_eq (plain (f v)) name) xs)
filter-named f [] name = refl
filter-named f (x ∷ xs) name = by_test (bytes_eq (plain (f x)) name) refl (filter-named f xs name)
  where
    by_test : (b : Bool) → bytes_eq (plain (f x)) name ≡ b → filter (λ o. bytes_eq (plain o.name) name) (map (named f) xs) ≡ map (named f) (filter (λ v. bytes_eq (plain (f v)) name) xs)
        → filter (λ o. bytes_eq (plain o.name) name) (map (named f) (x ∷ xs)) ≡ map (named f) (filter (λ v. bytes_eq (plain (f v)) name) (x ∷ xs))
    by_test true e rest = rw e (ap (λ ys. named f x ∷ ys) rest)
    by_test false e rest = rw e rest

only-named : (f : ℕ → List ℕ) (xs : List ℕ) → object_of (only (map (named f) xs)) ≡ only xs
only-named f [] = refl
only-named f (x ∷ []) = refl
only-named f (x ∷ y ∷ xs) = refl

pub meaning-named : (f : ℕ → List ℕ) (xs : List ℕ) (name : List ℕ)
    → meaning (map (named f) xs) name ≡ option_or (find (λ v. bytes_eq (f v) name) xs) (only (filter (λ v. bytes_eq (plain (f v)) name) xs))
meaning-named f xs name =
    ap (λ o. option_or o (object_of (only (filter (λ o. bytes_eq (plain o.name) name) (map (named f) xs))))) (find-named f xs name)
    ∙ ap (λ o. option_or (find (λ v. bytes_eq (f v) name) xs) o)
    (ap (λ ys. object_of (only ys)) (filter-named f xs name) ∙ only-named f (filter (λ v. bytes_eq (plain (f v)) name) xs))

-- all numbers of a range pass
pub filter-range : (p : ℕ → Bool) (k m : ℕ) → ((v : ℕ) → k ≤ v → v < k + m → p v ≡ true) → filter p (range_with_len k m) ≡ range_with_len k m
filter-range p k zero all = refl
filter-range p k (suc m) all =
    rw (all k (omega arith) (omega arith)) (ap (λ xs. k ∷ xs) (filter-range p (k + 1) m (λ v low high. all v (omega (arith, low)) (omega (arith, high)))))
