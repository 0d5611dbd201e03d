-- No clock of the top has a name that begins with the prefix of virtual clocks' names.
use Rattle.std.specs.Prelude.{◌≡◌, ℕ, zero, suc, ◌+◌, ◌<◌, ◌≤◌, not, Bool, true, false, List, [], ◌∷◌, length, find, replicate, codes, take, sum_by, All, slice_index_or, unwrap_or}
use Rattle.std.specs.List.{list_any, range_with_len}
use Rattle.std.specs.Str.{bytes_eq}
use Rattle.std.proofs.Common.{true≢false, arith, sym, ◌∙◌, refl, ap}
use Rattle.std.proofs.lemmas.List.{length-take, length-replicate, length-append}
use Rattle.std.proofs.lemmas.List.Folds.{list_any_none, list_any_at}
use Rattle.std.proofs.lemmas.List.Sums.{sum_by-cons}
use Rattle.std.proofs.lemmas.Slice.Eq.{bytes_eq-Decides}
use Rattle.bud_design.specs.declared.clocks.Clock.{Clock}
use Rattle.block_theory.specs.BlockClocks.{prefix_with, begins_with, is_free, prefix}

abbrev name_length : Clock → ℕ
name_length c = length c.name

name-within : (clocks : List Clock) → All (λ c. name_length c ≤ sum_by name_length clocks) clocks
name-within [] k d below = absurd (omega (arith, below))
name-within (c ∷ cs) zero d below = omega (arith, sum_by-cons name_length c cs)
name-within (c ∷ cs) (suc k) d below = omega (arith, sum_by-cons name_length c cs, name-within cs k d (omega (arith, below)))

-- a front longer than a name doesn't begin it
begins-not : (front name : List ℕ) → length name < length front → begins_with front name ≡ false
begins-not front name longer = by_test (bytes_eq (take (length front) name) front) refl
  where
    by_test : (b : Bool) → bytes_eq (take (length front) name) front ≡ b → b ≡ false
    by_test false is = refl
    by_test true is =
        let same = (bytes_eq-Decides (take (length front) name) front).0 is in
        absurd (omega (arith, longer, ap (λ (bs : List ℕ). length bs) same, length-take (length front) name))

prefix-length : (n : ℕ) → length (prefix_with n) ≡ n + 4
prefix-length n = length-append (replicate n 120) (codes "bud_") ∙ ap (λ k. k + 4) (length-replicate n 120)

long-free : (clocks : List Clock) → is_free clocks (sum_by name_length clocks) ≡ true
long-free clocks =
    ap not (list_any_none (λ (c : Clock). begins_with (prefix_with (sum_by name_length clocks)) c.name) clocks
    (λ k d below. begins-not (prefix_with (sum_by name_length clocks)) (slice_index_or clocks k d).name
    (omega (arith, name-within clocks k d below, prefix-length (sum_by name_length clocks)))))

-- what is found among numbers of which one is such is such
found-such : (p : ℕ → Bool) (n a k : ℕ) → k < n → p (a + k) ≡ true → p (unwrap_or (find p (range_with_len a n)) 0) ≡ true
found-such p zero a k below is = absurd (omega (arith, below))
found-such p (suc n) a k below is = by_test (p a) refl (λ j less there. found-such p n (a + 1) j less there)
  where
    onward : (j : ℕ) → j ≡ k → p a ≡ false → ((i : ℕ) → i < n → p (a + 1 + i) ≡ true → p (unwrap_or (find p (range_with_len (a + 1) n)) 0) ≡ true)
        → p (unwrap_or (find p (range_with_len (a + 1) n)) 0) ≡ true
    onward zero same other rest = absurd (true≢false (sym is ∙ (ap p (omega (arith, same)) ∙ other)))
    onward (suc j) same other rest = rest j (omega (arith, same, below)) (ap p (omega (arith, same)) ∙ is)

    by_test : (b : Bool) → p a ≡ b → ((i : ℕ) → i < n → p (a + 1 + i) ≡ true → p (unwrap_or (find p (range_with_len (a + 1) n)) 0) ≡ true)
        → p (unwrap_or (find p (range_with_len a (suc n))) 0) ≡ true
    by_test true here rest = rw here here
    by_test false other rest = rw other (onward k refl other rest)

prefix-free : (clocks : List Clock) → list_any (λ c. begins_with (prefix clocks) c.name) clocks ≡ false
prefix-free clocks = not-true (list_any (λ c. begins_with (prefix clocks) c.name) clocks)
    (found-such (is_free clocks) (suc (sum_by name_length clocks)) 0 (sum_by name_length clocks) (omega arith) (ap (is_free clocks) (omega arith) ∙ long-free clocks))
  where
    not-true : (b : Bool) → not b ≡ true → b ≡ false
    not-true false is = refl
    not-true true is = absurd (true≢false (sym is))

pub prefix-begins_none : (clocks : List Clock) → All (λ c. begins_with (prefix clocks) c.name ≡ false) clocks
prefix-begins_none clocks k d below = by_test (begins_with (prefix clocks) (slice_index_or clocks k d).name) refl
  where
    by_test : (b : Bool) → begins_with (prefix clocks) (slice_index_or clocks k d).name ≡ b → b ≡ false
    by_test false is = refl
    by_test true is = absurd (true≢false (sym (list_any_at (λ c. begins_with (prefix clocks) c.name) clocks k d below is) ∙ prefix-free clocks))
