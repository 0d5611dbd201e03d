-- What is left of filtered ranges, number by number.
use Rattle.std.specs.Prelude.{◌≡◌, ℕ, suc, ◌+◌, ◌-◌, ◌<◌, ◌≤◌, ◌&&◌, Bool, true, false, List, [], ◌∷◌, ◌++◌, filter, flat_map, if◌then◌else◌}
use Rattle.std.specs.List.{range_with_len}
use Rattle.std.proofs.Common.{true≢false, refl, sym, ◌∙◌, ap, arith}
use Rattle.std.proofs.lemmas.List.{append_assoc}
use Rattle.std.proofs.lemmas.List.Concat.{flat_map-cons}

-- the numbers from one on, below another
abbrev pub up_to : ℕ → ℕ → List ℕ
up_to i n = range_with_len i (n - i)

pub up_to-step : (i n : ℕ) → i < n → up_to i n ≡ i ∷ up_to (i + 1) n
up_to-step i n below = ap (range_with_len i) (length_is (n - i) refl) ∙ ap (λ k. i ∷ range_with_len (i + 1) k) (omega (arith, below))
  where
    length_is : (k : ℕ) → n - i ≡ k → n - i ≡ suc (n - i - 1)
    length_is k is = omega (arith, below)

pub up_to-end : (i n : ℕ) → n ≤ i → up_to i n ≡ []
up_to-end i n past = ap (range_with_len i) (let none : n - i ≡ 0 = omega (arith, past) in none)

pub filter-alike : (p q : ℕ → Bool) (ns : List ℕ) → ((n : ℕ) → p n ≡ q n) → filter p ns ≡ filter q ns
filter-alike p q [] same = refl
filter-alike p q (n ∷ ns) same = rw (same n, filter-alike p q ns same) refl

-- bits that pass two tests, with what each gives
module _ (p q : ℕ → Bool) (g : ℕ → List ℕ) (n : ℕ) where
  abbrev pub given_from : ℕ → List ℕ
  given_from i = flat_map g (filter q (filter p (up_to i n)))

  pub given-in : (i : ℕ) → i < n → p i && q i ≡ true → given_from i ≡ g i ++ given_from (i + 1)
  given-in i below passes =
      ap (λ ns. flat_map g (filter q (filter p ns))) (up_to-step i n below) ∙ by_tests (p i) (q i) refl refl passes
    where
      by_tests : (a b : Bool) → p i ≡ a → q i ≡ b → a && b ≡ true → flat_map g (filter q (filter p (i ∷ up_to (i + 1) n))) ≡ g i ++ given_from (i + 1)
      by_tests true true first second both =
          let same : filter q (filter p (i ∷ up_to (i + 1) n)) ≡ i ∷ filter q (filter p (up_to (i + 1) n)) = rw (first, second) refl in
          ap (flat_map g) same ∙ flat_map-cons g i (filter q (filter p (up_to (i + 1) n)))
      by_tests true false first second both = absurd (true≢false (sym both))
      by_tests false b first second both = absurd (true≢false (sym both))

  pub given-out : (i : ℕ) → i < n → p i && q i ≡ false → given_from i ≡ given_from (i + 1)
  given-out i below fails =
      ap (λ ns. flat_map g (filter q (filter p ns))) (up_to-step i n below) ∙ by_tests (p i) (q i) refl refl fails
    where
      by_tests : (a b : Bool) → p i ≡ a → q i ≡ b → a && b ≡ false → flat_map g (filter q (filter p (i ∷ up_to (i + 1) n))) ≡ given_from (i + 1)
      by_tests true true first second both = absurd (true≢false both)
      by_tests true false first second both = rw (first, second) refl
      by_tests false b first second both = rw first refl

  pub given-step : (i : ℕ) → i < n → given_from i ≡ (if p i && q i then g i else []) ++ given_from (i + 1)
  given-step i below = by_test (p i && q i) refl
    where
      by_test : (b : Bool) → p i && q i ≡ b → given_from i ≡ (if b then g i else []) ++ given_from (i + 1)
      by_test true passes = given-in i below passes
      by_test false fails = given-out i below fails

  -- with what was put at a number, the rest stands from the next on
  pub given-on : (out new whole : List ℕ) (i : ℕ) → i < n → new ≡ out ++ (if p i && q i then g i else []) → out ++ given_from i ≡ whole → new ++ given_from (i + 1) ≡ whole
  given-on out new whole i below put is =
      ap (λ ns. ns ++ given_from (i + 1)) put ∙ (append_assoc out (if p i && q i then g i else []) (given_from (i + 1)) ∙ (ap (λ ns. out ++ ns) (sym (given-step i below)) ∙ is))

  pub given-end : (i : ℕ) → n ≤ i → given_from i ≡ []
  given-end i past = ap (λ ns. flat_map g (filter q (filter p ns))) (up_to-end i n past)
