-- Tests that all elements of lists pass.
use Rattle.std.proofs.Common.{◌≡◌, ℕ, zero, suc, ◌+◌, ◌<◌, ◌≤◌, nat_lt, Bool, true, List, [], ◌∷◌, ◌++◌, map, filter, refl, arith}
use Rattle.std.proofs.lemmas.Bool.{and_parts}
use Rattle.std.proofs.lemmas.Bool.Decides.{nat_tests}
use Rattle.std.specs.List.{list_all, flat_map, range_with_len}
use Rattle.text_scan.proofs.Binds.{by_test}

pub all_both : {X : Type 0} (p : X → Bool) (xs ys : List X) → list_all p xs ≡ true → list_all p ys ≡ true → list_all p (xs ++ ys) ≡ true
all_both p [] ys first second = second
all_both p (x ∷ xs) ys first second =
    let parts = and_parts (p x) (list_all p xs) first in
    rw (parts.0, all_both p xs ys parts.1 second) refl

-- where one test follows from another
pub all_map : {X Y : Type 0} (p : X → Bool) (q : Y → Bool) (f : X → Y) (xs : List X) → ((x : X) → p x ≡ true → q (f x) ≡ true) → list_all p xs ≡ true → list_all q (map f xs) ≡ true
all_map p q f [] each all = refl
all_map p q f (x ∷ xs) each all =
    let parts = and_parts (p x) (list_all p xs) all in
    rw (each x parts.0, all_map p q f xs each parts.1) refl

pub all_filter : {X : Type 0} (p q : X → Bool) (xs : List X) → list_all p xs ≡ true → list_all p (filter q xs) ≡ true
all_filter p q [] all = refl
all_filter p q (x ∷ xs) all =
    let parts = and_parts (p x) (list_all p xs) all in
    by_test (q x)
    (λ passes. rw (passes, parts.0, all_filter p q xs parts.1) refl)
    (λ fails. rw fails (all_filter p q xs parts.1))

pub all_flat : {X Y : Type 0} (p : X → Bool) (q : Y → Bool) (f : X → List Y) (xs : List X) → ((x : X) → p x ≡ true → list_all q (f x) ≡ true) → list_all p xs ≡ true → list_all q (flat_map f xs) ≡ true
all_flat p q f [] each all = refl
all_flat p q f (x ∷ xs) each all =
    let parts = and_parts (p x) (list_all p xs) all in
    all_both q (f x) (flat_map f xs) (each x parts.0) (all_flat p q f xs each parts.1)

pub all_range : (p : ℕ → Bool) (from n : ℕ) → ((i : ℕ) → from ≤ i → i < from + n → p i ≡ true) → list_all p (range_with_len from n) ≡ true
all_range p from zero each = refl
all_range p from (suc n) each =
    rw (each from (omega arith) (omega arith), all_range p (from + 1) n (λ i low high. each i (omega (arith, low)) (omega (arith, high)))) refl

pub below_is : (i n : ℕ) → i < n → nat_lt i n ≡ true
below_is i n low = grind (arith, nat_tests)

pub below_from : (i n : ℕ) → nat_lt i n ≡ true → i < n
below_from i n low = grind (arith, nat_tests)

-- the numbers below the length
pub all_below : (n : ℕ) → list_all (λ i. nat_lt i n) (range_with_len 0 n) ≡ true
all_below n = all_range (λ i. nat_lt i n) 0 n (λ i low high. below_is i n (omega (arith, high)))

pub all_true : {X : Type 0} (xs : List X) → list_all (λ x. true) xs ≡ true
all_true [] = refl
all_true (x ∷ xs) = all_true xs
