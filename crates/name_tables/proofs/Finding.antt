-- The first number of a range that passes.
use Rattle.std.specs.Prelude.{◌≡◌, ℕ, zero, suc, ◌<◌, ◌≤◌, ◌+◌, ◌-◌, Bool, true, false, List, [], ◌∷◌, find, Some, None}
use Rattle.std.specs.List.{range_with_len}
use Rattle.std.proofs.Common.{arith, sym, ◌∙◌, refl, ap, subst}
use Rattle.name_tables.specs.Chained.{number_or}

range-some : (k n : ℕ) → k < n → range_with_len k (n - k) ≡ k ∷ range_with_len (k + 1) (n - (k + 1))
range-some k n below =
    let one : n - k ≡ suc (n - (k + 1)) = omega (arith, below) in
    ap (range_with_len k) one

range-none : (k n : ℕ) → n ≤ k → range_with_len k (n - k) ≡ []
range-none k n past =
    let none : n - k ≡ 0 = omega (arith, past) in
    ap (range_with_len k) none

-- the search from a number on
pub find-here : (q : ℕ → Bool) (k n : ℕ) → k < n → q k ≡ true → find q (range_with_len k (n - k)) ≡ Some k
find-here q k n below is = ap (find q) (range-some k n below) ∙ rw is refl

pub find-next : (q : ℕ → Bool) (k n : ℕ) → k < n → q k ≡ false → find q (range_with_len k (n - k)) ≡ find q (range_with_len (k + 1) (n - (k + 1)))
find-next q k n below is = ap (find q) (range-some k n below) ∙ rw is refl

pub find-end : (q : ℕ → Bool) (k n : ℕ) → n ≤ k → find q (range_with_len k (n - k)) ≡ None
find-end q k n past = ap (find q) (range-none k n past)

-- what is found stands in the range and passes
pub found-below : (q : ℕ → Bool) (k m v : ℕ) → find q (range_with_len k m) ≡ Some v → (k ≤ v) × (v < k + m)
found-below q k zero v found = absurd (cc)
found-below q k (suc m) v found = by_test (q k) refl found (found-below q (k + 1) m v)
  where
    by_test : (b : Bool) → q k ≡ b → find q (range_with_len k (suc m)) ≡ Some v → (find q (range_with_len (k + 1) m) ≡ Some v → (k + 1 ≤ v) × (v < k + 1 + m)) → (k ≤ v) × (v < k + suc m)
    by_test true e found rest =
        let here : find q (range_with_len k (suc m)) ≡ Some k = rw e refl in
        let same : k ≡ v = cc in
        (omega (arith, same), omega (arith, same))
    by_test false e found rest = let more = rest (rw e at found) in (omega (arith, more.0), omega (arith, more.1))

pub found-within : (q : ℕ → Bool) (k n v : ℕ) → find q (range_with_len k (n - k)) ≡ Some v → (k ≤ v) × (v < n)
found-within q k n v found = let within = found-below q k (n - k) v found in (within.0, omega (arith, within.0, within.1))

pub found-passes : (q : ℕ → Bool) (xs : List ℕ) (v : ℕ) → find q xs ≡ Some v → q v ≡ true
found-passes q [] v found = absurd (cc)
found-passes q (x ∷ xs) v found = by_test (q x) refl found (found-passes q xs v)
  where
    by_test : (b : Bool) → q x ≡ b → find q (x ∷ xs) ≡ Some v → (find q xs ≡ Some v → q v ≡ true) → q v ≡ true
    by_test true e found rest =
        let here : find q (x ∷ xs) ≡ Some x = rw e refl in
        let same : x ≡ v = cc in
        subst (λ v. q v ≡ true) same e
    by_test false e found rest = rest (rw e at found)

-- tests that agree in the range find the same
pub find-same : (q r : ℕ → Bool) (k m : ℕ) → ((v : ℕ) → k ≤ v → v < k + m → q v ≡ r v) → find q (range_with_len k m) ≡ find r (range_with_len k m)
find-same q r k zero same = refl
find-same q r k (suc m) same = by_test (r k) refl (find-same q r (k + 1) m (λ v low high. same v (omega (arith, low)) (omega (arith, high))))
  where
    by_test : (b : Bool) → r k ≡ b → find q (range_with_len (k + 1) m) ≡ find r (range_with_len (k + 1) m) → find q (range_with_len k (suc m)) ≡ find r (range_with_len k (suc m))
    by_test true e rest = let f : q k ≡ true = same k (omega arith) (omega arith) ∙ e in rw (e, f) refl
    by_test false e rest = let f : q k ≡ false = same k (omega arith) (omega arith) ∙ e in rw (e, f) rest

-- a search may begin where a weaker test first passes
search-from : (q r : ℕ → Bool) → ((v : ℕ) → q v ≡ true → r v ≡ true) → (k m n : ℕ) → k + m ≡ n
    → find q (range_with_len k m) ≡ find q (range_with_len (number_or n (find r (range_with_len k m))) (n - number_or n (find r (range_with_len k m))))
search-from q r weaker k zero n all = sym (find-end q n n (omega arith))
search-from q r weaker k (suc m) n all = by_tests (q k) (r k) refl refl (search-from q r weaker (k + 1) m n (omega (arith, all)))
  where
    by_tests : (a b : Bool) → q k ≡ a → r k ≡ b
        → find q (range_with_len (k + 1) m) ≡ find q (range_with_len (number_or n (find r (range_with_len (k + 1) m))) (n - number_or n (find r (range_with_len (k + 1) m))))
        → find q (range_with_len k (suc m)) ≡ find q (range_with_len (number_or n (find r (range_with_len k (suc m)))) (n - number_or n (find r (range_with_len k (suc m)))))
    by_tests a true e f rest =
        let left : suc m ≡ n - k = omega (arith, all) in
        rw f (ap (λ m. find q (range_with_len k m)) left)
    by_tests true false e f rest = absurd (let is = weaker k e in cc)
    by_tests false false e f rest = rw (e, f) rest

pub find-from : (q r : ℕ → Bool) → ((v : ℕ) → q v ≡ true → r v ≡ true) → (k n : ℕ) → k ≤ n
    → find q (range_with_len k (n - k)) ≡ find q (range_with_len (number_or n (find r (range_with_len k (n - k)))) (n - number_or n (find r (range_with_len k (n - k)))))
find-from q r weaker k n low = search-from q r weaker k (n - k) n (omega (arith, low))
