-- Places of numbers in a rising list.
use Rattle.std.specs.Prelude.{◌≡◌, ℕ, suc, ◌+◌, ◌<◌, ◌==◌, Bool, true, false, List, [], ◌∷◌, filter, length, All, AllPairs, Contains, Some, unwrap_or, slice_index_or}
use Rattle.std.specs.List.{position_from, range_with_len}
use Rattle.std.proofs.Common.{true≢false, refl, sym, ◌∙◌, ap, subst, arith, inl, inr, eq-eqb}
use Rattle.std.proofs.lemmas.Bool.{cases_lt}
use Rattle.std.proofs.lemmas.Bool.Decides.{Decides-eqb}
use Rattle.std.proofs.lemmas.List.{get_or_default}
use Rattle.std.proofs.lemmas.List.Elements.{All-filter, filter_passes, All-contains}
use Rattle.std.proofs.lemmas.List.FromFn.{length-range_with_len, get_or-range_with_len}
use Rattle.std.proofs.lemmas.List.Kept.{AllPairs-cons}
use Rattle.bud_design.proofs.ClassLaws.{pairs-head, pairs-tail}
use Rattle.requirements.proofs.Members.{contains-cases}
use Rattle.block_theory.specs.BlockScopes.{place_in}

-- a number that is there stands at its place
pub record IsPlaceOf (ns : List ℕ) (n i : ℕ) : Type 0 where
  pub below : i < length ns
  pub is : slice_index_or ns i n ≡ n

position-at : (ns : List ℕ) (n k : ℕ) → Contains ns n → (i : ℕ) × ((position_from (λ m. m == n) k ns ≡ Some (k + i)) × IsPlaceOf ns n i)
position-at [] n k has = absurd (omega (arith, has.1))
position-at (m ∷ ms) n k has = by_test (m == n) refl (λ later. position-at ms n (k + 1) later)
  where
    later-in : (m == n) ≡ false → Contains ms n
    later-in other = elim (contains-cases m ms n has) [
      | inl same ↦ absurd (true≢false (sym (eq-eqb m n same) ∙ other))
      | inr later ↦ later
    ]

    by_test : (b : Bool) → (m == n) ≡ b → (Contains ms n → (i : ℕ) × ((position_from (λ m. m == n) (k + 1) ms ≡ Some (k + 1 + i)) × IsPlaceOf ms n i))
        → (i : ℕ) × ((position_from (λ m. m == n) k (m ∷ ms) ≡ Some (k + i)) × IsPlaceOf (m ∷ ms) n i)
    by_test true here rest = (0, (rw here (ap (λ j. Some j) (omega arith)), record { below = omega arith; is = (Decides-eqb m n).0 here }))
    by_test false other rest =
        let there = rest (later-in other) in
        (suc there.0, (rw other (there.1.0 ∙ ap (λ j. Some j) (omega arith)), record { below = omega (arith, there.1.1.below); is = there.1.1.is }))

pub IsPlaceOf-place_in : (ns : List ℕ) (n : ℕ) → Contains ns n → IsPlaceOf ns n (place_in ns n)
IsPlaceOf-place_in ns n has =
    let there = position-at ns n 0 has in
    let same : place_in ns n ≡ there.0 = ap (λ o. unwrap_or o 0) there.1.0 ∙ omega arith in
    subst (IsPlaceOf ns n) (sym same) there.1.1

-- each number is less than those behind it
abbrev pub Rise : List ℕ → Type 0
Rise ns = AllPairs (λ m n. m < n) ns

pub place_in-at : (ns : List ℕ) → Rise ns → (i d : ℕ) → i < length ns → place_in ns (slice_index_or ns i d) ≡ i
place_in-at ns rise i d below =
    let n = slice_index_or ns i d in
    let there = IsPlaceOf-place_in ns n (i, below, get_or_default ns i n d below) in
    let j = place_in ns n in
    let same : slice_index_or ns j d ≡ n = get_or_default ns j d n there.below ∙ there.is in
    elim (cases_lt i j) [
      | inl less ↦ absurd (omega (arith, rise i j d less there.below, same))
      | inr most ↦ elim (cases_lt j i) [
        | inl less ↦ absurd (omega (arith, rise j i d less below, same))
        | inr least ↦ omega (arith, most, least)
      ]
    ]

pub place_in-same : (ns : List ℕ) (m n : ℕ) → Contains ns m → Contains ns n → place_in ns m ≡ place_in ns n → m ≡ n
place_in-same ns m n hasm hasn same =
    let first = IsPlaceOf-place_in ns m hasm in
    let second = IsPlaceOf-place_in ns n hasn in
    sym first.is ∙ (ap (λ i. slice_index_or ns i m) same ∙ (get_or_default ns (place_in ns n) m n second.below ∙ second.is))

filter-rise : (p : ℕ → Bool) (ns : List ℕ) → Rise ns → Rise (filter p ns)
filter-rise p [] rise = rise
filter-rise p (n ∷ ns) rise = by_test (p n) refl (filter-rise p ns (pairs-tail (λ m n. m < n) n ns rise))
  where
    by_test : (b : Bool) → p n ≡ b → Rise (filter p ns) → Rise (filter p (n ∷ ns))
    by_test true passes rest =
        let same : filter p (n ∷ ns) ≡ n ∷ filter p ns = rw passes refl in
        subst Rise (sym same) (AllPairs-cons (λ m n. m < n) n (filter p ns) (All-filter p (λ m. n < m) ns (pairs-head (λ m n. m < n) n ns rise)) rest)
    by_test false fails rest = subst Rise (sym (let same : filter p (n ∷ ns) ≡ filter p ns = rw fails refl in same)) rest

range-rise : (n : ℕ) → Rise (range_with_len 0 n)
range-rise n i j d less below =
    let within : j < n = omega (arith, below, length-range_with_len 0 n) in
    omega (arith, less, get_or-range_with_len 0 n i d (omega (arith, less, within)), get_or-range_with_len 0 n j d within)

pub filtered-rise : (p : ℕ → Bool) (n : ℕ) → Rise (filter p (range_with_len 0 n))
filtered-rise p n = filter-rise p (range_with_len 0 n) (range-rise n)

-- ---- members of a filtered range
pub range-below : (n : ℕ) → All (λ k. k < n) (range_with_len 0 n)
range-below n i d below =
    let within : i < n = omega (arith, below, length-range_with_len 0 n) in
    omega (arith, within, get_or-range_with_len 0 n i d within)

pub filtered-below : (p : ℕ → Bool) (n k : ℕ) → Contains (filter p (range_with_len 0 n)) k → k < n
filtered-below p n k has = All-contains (λ k. k < n) (filter p (range_with_len 0 n)) k (All-filter p (λ k. k < n) (range_with_len 0 n) (range-below n)) has

pub filtered-passes : (p : ℕ → Bool) (ns : List ℕ) (k : ℕ) → Contains (filter p ns) k → p k ≡ true
filtered-passes p ns k has = All-contains (λ k. p k ≡ true) (filter p ns) k (filter_passes p ns) has

pub filter-has : {X : Type 0} (p : X → Bool) (xs : List X) (x : X) → Contains xs x → p x ≡ true → Contains (filter p xs) x
filter-has p [] x has passes = absurd (omega (arith, has.1))
filter-has {X} p (y ∷ ys) x has passes = elim (contains-cases y ys x has) [
  | inl here ↦ (let same : filter p (y ∷ ys) ≡ y ∷ filter p ys = rw (ap p here ∙ passes) refl in subst (λ (zs : List X). Contains zs x) (sym same) (0, omega arith, here))
  | inr later ↦ more (p y) refl (filter-has p ys x later passes)
]
  where
    more : (b : Bool) → p y ≡ b → Contains (filter p ys) x → Contains (filter p (y ∷ ys)) x
    more true e rest = (let same : filter p (y ∷ ys) ≡ y ∷ filter p ys = rw e refl in subst (λ (zs : List X). Contains zs x) (sym same) (suc rest.0, omega (arith, rest.1), rest.2))
    more false e rest = (let same : filter p (y ∷ ys) ≡ filter p ys = rw e refl in subst (λ (zs : List X). Contains zs x) (sym same) rest)

pub range-has : (n k : ℕ) → k < n → Contains (range_with_len 0 n) k
range-has n k below = (k, omega (arith, below, length-range_with_len 0 n), get_or-range_with_len 0 n k k below ∙ omega arith)

pub filtered-has : (p : ℕ → Bool) (n k : ℕ) → k < n → p k ≡ true → Contains (filter p (range_with_len 0 n)) k
filtered-has p n k below passes = filter-has p (range_with_len 0 n) k (range-has n k below) passes
