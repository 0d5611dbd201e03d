-- The fewest letters before `bud_` with which no clock's name begins.
use Rattle.std.proofs.Common.{◌≡◌, ℕ, zero, suc, ◌+◌, ◌-◌, ◌<◌, ◌≤◌, Bool, true, false, List, [], ◌∷◌, length, refl, sym, ap, ◌∙◌, arith, Some}
use Rattle.std.specs.Prelude.{find, replicate, codes, take, sum_by, unwrap_or, All, slice_index_or}
use Rattle.std.specs.List.{list_any, range_with_len}
use Rattle.std.specs.Str.{bytes_eq}
use Rattle.std.proofs.lemmas.List.{length-take, length-replicate, length-append}
use Rattle.std.proofs.lemmas.List.Folds.{list_any_none}
use Rattle.std.proofs.lemmas.List.Sums.{sum_by-cons}
use Rattle.std.proofs.lemmas.Slice.Eq.{bytes_eq-Decides}
use Rattle.bud_design.specs.declared.clocks.Clock.{Clock}
use Rattle.block_theory.specs.BlockClocks.{prefix_with, begins_with, is_free, prefix}

-- a front longer than a name doesn't begin it
pub too_long : (front name : List ℕ) → length name < length front → begins_with front name ≡ false
too_long front name longer = by_test (bytes_eq (take (length front) name) front) refl
  where
    by_test : (b : Bool) → bytes_eq (take (length front) name) front ≡ b → b ≡ false
    by_test false is = refl
    by_test true is =
        let same = (bytes_eq-Decides (take (length front) name) front).0 is in
        absurd (omega (arith, longer, ap (λ (bs : List ℕ). length bs) same, length-take (length front) name))

abbrev pub total : List Clock → ℕ
total clocks = sum_by (λ c. length c.name) clocks

name-within : (clocks : List Clock) → All (λ c. length c.name ≤ total clocks) clocks
name-within [] k d below = absurd (omega (arith, below))
name-within (c ∷ cs) zero d below = omega (arith, sum_by-cons (λ (c : Clock). length c.name) c cs)
name-within (c ∷ cs) (suc k) d below = omega (arith, sum_by-cons (λ (c : Clock). length c.name) c cs, name-within cs k d (omega (arith, below)))

prefix-length : (n : ℕ) → length (prefix_with n) ≡ n + 4
prefix-length n = length-append (replicate n 120) (codes "bud_") ∙ ap (λ k. k + 4) (length-replicate n 120)

-- what is taken has fewer letters than all names together
pub taken_low : (clocks : List Clock) (n : ℕ) → list_any (λ c. begins_with (prefix_with n) c.name) clocks ≡ true → n < total clocks
taken_low clocks n taken = by_less (total clocks - n) refl
  where
    none : total clocks ≤ n → list_any (λ (c : Clock). begins_with (prefix_with n) c.name) clocks ≡ false
    none past = list_any_none (λ (c : Clock). begins_with (prefix_with n) c.name) clocks
        (λ k d below. too_long (prefix_with n) (slice_index_or clocks k d).name (omega (arith, past, name-within clocks k d below, prefix-length n)))

    by_less : (k : ℕ) → total clocks - n ≡ k → n < total clocks
    by_less zero is = absurd (let wrong : true ≡ false = sym taken ∙ none (omega (arith, is)) in cc)
    by_less (suc k) is = omega (arith, is)

abbrev pub left : List Clock → ℕ → ℕ
left clocks n = suc (total clocks) - n

-- one that is taken isn't found
pub find_on : (clocks : List Clock) (n : ℕ) → n ≤ total clocks → list_any (λ c. begins_with (prefix_with n) c.name) clocks ≡ true →
    find (is_free clocks) (range_with_len n (left clocks n)) ≡ find (is_free clocks) (range_with_len (n + 1) (left clocks (n + 1)))
find_on clocks n low taken =
    ap (λ k. find (is_free clocks) (range_with_len n k)) more ∙ step
  where
    more : left clocks n ≡ suc (left clocks (n + 1))
    more = omega (arith, low)

    step : find (is_free clocks) (range_with_len n (suc (left clocks (n + 1)))) ≡ find (is_free clocks) (range_with_len (n + 1) (left clocks (n + 1)))
    step = rw taken refl

-- the first that is free
pub find_here : (clocks : List Clock) (n : ℕ) → n ≤ total clocks → list_any (λ c. begins_with (prefix_with n) c.name) clocks ≡ false →
    find (is_free clocks) (range_with_len 0 (left clocks 0)) ≡ find (is_free clocks) (range_with_len n (left clocks n)) → prefix clocks ≡ prefix_with n
find_here clocks n low free same = ap (λ o. prefix_with (unwrap_or o 0)) (ap (λ k. find (is_free clocks) (range_with_len 0 k)) whole ∙ (same ∙ (ap (λ k. find (is_free clocks) (range_with_len n k)) more ∙ here)))
  where
    more : left clocks n ≡ suc (left clocks (n + 1))
    more = omega (arith, low)

    whole : suc (total clocks) ≡ left clocks 0
    whole = omega arith

    here : find (is_free clocks) (range_with_len n (suc (left clocks (n + 1)))) ≡ Some n
    here = rw free refl
