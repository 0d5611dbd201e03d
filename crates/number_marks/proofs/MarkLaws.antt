-- Numbers by marks.
use Rattle.std.proofs.Common.{◌≡◌, ℕ, zero, suc, ◌+◌, ◌<◌, Bool, true, false, List, [], ◌∷◌, ◌++◌, filter, All, refl, sym, ap, ◌∙◌, subst, append_assoc, append-nil, arith, if◌then◌else◌}
use Rattle.std.specs.Prelude.{Result, Ok, Err, IfOk}
use Rattle.std.specs.List.{range_with_len}
use Rattle.std.proofs.lemmas.List.Elements.{All-cons, All-head, All-tail}
use Rattle.number_marks.specs.Marks.{AreMarks, has_number, is_marked}

by_test : {P : Type 0} (b : Bool) → (b ≡ true → P) → (b ≡ false → P) → P
by_test true holds fails = holds refl
by_test false holds fails = fails refl

filter-both : (p : ℕ → Bool) (xs ys : List ℕ) → filter p (xs ++ ys) ≡ filter p xs ++ filter p ys
filter-both p [] ys = refl
filter-both p (x ∷ xs) ys = by_test (p x) (λ holds. rw holds (ap (λ zs. x ∷ zs) (filter-both p xs ys))) (λ fails. rw fails (filter-both p xs ys))

range_last : (a n j : ℕ) → a + n ≡ j → range_with_len a (suc n) ≡ range_with_len a n ++ j ∷ []
range_last a zero j e = ap (λ k. k ∷ []) (omega (arith, e))
range_last a (suc n) j e = ap (λ xs. a ∷ xs) (range_last (a + 1) n j (omega (arith, e)))

-- one number more of a count
pub below_more : (p : ℕ → Bool) (n : ℕ) → filter p (range_with_len 0 n) ++ (if p n then n ∷ [] else []) ≡ filter p (range_with_len 0 (n + 1))
below_more p n =
    sym (ap (λ k. filter p (range_with_len 0 k)) on ∙ (ap (filter p) (range_last 0 n n (omega arith)) ∙ (filter-both p (range_with_len 0 n) (n ∷ []) ∙ ap (λ zs. filter p (range_with_len 0 n) ++ zs) (one (p n) refl))))
  where
    on : n + 1 ≡ suc n
    on = omega arith

    one : (b : Bool) → p n ≡ b → filter p (n ∷ []) ≡ (if p n then n ∷ [] else [])
    one true holds = rw holds refl
    one false fails = rw fails refl

-- tests that agree on the elements of a list pass the same ones
filter-alike : (p q : ℕ → Bool) (count : ℕ) (xs : List ℕ) → ((v : ℕ) → v < count → p v ≡ q v) → All (λ v. v < count) xs → filter p xs ≡ filter q xs
filter-alike p q count [] alike all = refl
filter-alike p q count (x ∷ xs) alike all =
    let same = alike x (All-head (λ v. v < count) x xs all) in
    let rest = filter-alike p q count xs alike (All-tail (λ v. v < count) x xs all) in
    by_test (q x)
    (λ holds. rw (same, holds) (ap (λ zs. x ∷ zs) rest))
    (λ fails. rw (same, fails) rest)

-- one number more of a list
pub marked_more : (p : ℕ → Bool) (numbers found new rest : List ℕ) (n : ℕ) (wanted : Bool) → wanted ≡ p n → new ≡ found ++ (if wanted then n ∷ [] else []) → filter p numbers ≡ found ++ filter p (n ∷ rest)
    → filter p numbers ≡ new ++ filter p rest
marked_more p numbers found new rest n wanted is told was = was ∙ step (p n) refl
  where
    step : (b : Bool) → p n ≡ b → found ++ filter p (n ∷ rest) ≡ new ++ filter p rest
    step true holds = rw (told, is, holds) (sym (append_assoc found (n ∷ []) (filter p rest)))
    step false fails = rw (told, is, fails, append-nil found) refl

pub all_more : (count : ℕ) (numbers behind rest : List ℕ) (n : ℕ) → behind ≡ n ∷ rest → n < count → (All (λ v. v < count) behind → All (λ v. v < count) numbers) → All (λ v. v < count) rest → All (λ v. v < count) numbers
all_more count numbers behind rest n is here all last = all (subst (λ xs. All (λ v. v < count) xs) (sym is) (All-cons (λ v. v < count) n rest here last))

pub both_ok : {X Y : Type 0} (r : Result X Y) (P Q R : X → Type 0) → ((x : X) → P x → Q x → R x) → IfOk r P → IfOk r Q → IfOk r R
both_ok (Ok x) P Q R both first second = both x first second
both_ok (Err y) P Q R both first second = tt

pub among_marked : (numbers others : List ℕ) (count : ℕ) (marks : List Bool) → AreMarks others count marks → All (λ v. v < count) numbers → filter (is_marked marks) numbers ≡ filter (has_number others) numbers
among_marked numbers others count marks are all = filter-alike (is_marked marks) (has_number others) count numbers are.each all

range_alike : (n a count : ℕ) → a + n ≡ count → (p q : ℕ → Bool) → ((v : ℕ) → v < count → p v ≡ q v) → filter p (range_with_len a n) ≡ filter q (range_with_len a n)
range_alike zero a count sum p q alike = refl
range_alike (suc n) a count sum p q alike =
    let same = alike a (omega (arith, sum)) in
    let rest = range_alike n (a + 1) count (omega (arith, sum)) p q alike in
    by_test (q a)
    (λ holds. rw (same, holds) (ap (λ zs. a ∷ zs) rest))
    (λ fails. rw (same, fails) rest)

pub below_marked : (others : List ℕ) (count : ℕ) (marks : List Bool) → AreMarks others count marks → filter (is_marked marks) (range_with_len 0 count) ≡ filter (has_number others) (range_with_len 0 count)
below_marked others count marks are = range_alike count 0 count (omega arith) (is_marked marks) (has_number others) are.each
