-- Elements of which no two are alike, wherever they stand.
use Rattle.std.specs.Prelude.{◌≡◌, ℕ, zero, suc, ◌<◌, ◌==◌, Bool, true, false, List, [], ◌∷◌, ◌++◌, length, slice_index_or, All, AllPairs, if◌then◌else◌}
use Rattle.std.specs.List.{swap}
use Rattle.std.specs.List.Sorted.{IsPermutation}
use Rattle.std.proofs.Common.{refl, sym, ◌∙◌, ap, subst, arith, inl, inr}
use Rattle.std.proofs.lemmas.Bool.{cases_eq, cases_lt}
use Rattle.std.proofs.lemmas.List.Edits.{swapped_from_swap, length-swap}
use Rattle.std.proofs.lemmas.List.Elements.{All-append, All-head, All-tail}
use Rattle.std.proofs.lemmas.List.Kept.{AllPairs-cons}
use Rattle.std.proofs.lemmas.List.Sorted.{IsPermutation-keeps}
use Rattle.bud_design.proofs.ClassLaws.{pairs-head, pairs-tail}

-- pairs of one list, of another, and of both
pub AllPairs-append : {X : Type 0} (R : X → X → Type 0) (xs ys : List X) → AllPairs R xs → AllPairs R ys → All (λ x. All (R x) ys) xs → AllPairs R (xs ++ ys)
AllPairs-append R [] ys first second both = second
AllPairs-append R (x ∷ xs) ys first second both =
    AllPairs-cons R x (xs ++ ys) (All-append (R x) xs ys (pairs-head R x xs first) (All-head (λ x. All (R x) ys) x xs both))
    (AllPairs-append R xs ys (pairs-tail R x xs first) second (All-tail (λ x. All (R x) ys) x xs both))

-- at any two places
abbrev pub Apart : {X : Type 0} → (X → X → Type 0) → List X → Type 0
Apart {X} R xs = (a b : ℕ) (d : X) → a < length xs → b < length xs → (a ≡ b → ⊥) → R (slice_index_or xs a d) (slice_index_or xs b d)

pub Apart-from_pairs : {X : Type 0} (R : X → X → Type 0) → ((x y : X) → R x y → R y x) → (xs : List X) → AllPairs R xs → Apart R xs
Apart-from_pairs R turn xs pairs a b d first second differ = elim (cases_lt a b) [
  | inl less ↦ pairs a b d less second
  | inr most ↦ turn _ _ (pairs b a d (omega (arith, most, differ)) first)
]

pub Apart-pairs : {X : Type 0} (R : X → X → Type 0) (xs : List X) → Apart R xs → AllPairs R xs
Apart-pairs R xs apart i j d less within = apart i j d (omega (arith, less, within)) within (λ same. omega (arith, less, same))

-- where an element of a list with two exchanged stood
stood : ℕ → ℕ → ℕ → ℕ
stood i j a = if a == i then j else (if a == j then i else a)

stood-within : (n i j a : ℕ) → i < n → j < n → a < n → stood i j a < n
unfolding stood
stood-within n i j a first second within = grind arith

stood-once : (i j a b : ℕ) → stood i j a ≡ stood i j b → a ≡ b
unfolding stood
stood-once i j a b same = grind arith

module _ {X : Type 0} (R : X → X → Type 0) where
  stood-there : (xs : List X) (i j a : ℕ) (d : X) → i < length xs → j < length xs → slice_index_or (swap xs i j) a d ≡ slice_index_or xs (stood i j a) d
  unfolding stood
  stood-there xs i j a d first second =
      let moved = swapped_from_swap xs (swap xs i j) i j d first second refl in
      elim (cases_eq a i) [
        | inl same ↦ (let e : (a == i) ≡ true = grind arith in rw e (ap (λ k. slice_index_or (swap xs i j) k d) same ∙ moved.0))
        | inr other ↦
            let e : (a == i) ≡ false = grind arith in
            elim (cases_eq a j) [
              | inl same ↦ (let f : (a == j) ≡ true = grind arith in rw (e, f) (ap (λ k. slice_index_or (swap xs i j) k d) same ∙ moved.1))
              | inr another ↦ (let f : (a == j) ≡ false = grind arith in rw (e, f) (moved.2 a other another))
            ]
      ]

  swap-apart : (xs : List X) (i j : ℕ) → i < length xs → j < length xs → Apart R xs → Apart R (swap xs i j)
  swap-apart xs i j first second apart a b d ina inb differ =
      let size : length (swap xs i j) ≡ length xs = length-swap xs i j in
      rw (stood-there xs i j a d first second, stood-there xs i j b d first second)
      (apart (stood i j a) (stood i j b) d (stood-within (length xs) i j a first second (omega (arith, ina, size))) (stood-within (length xs) i j b first second (omega (arith, inb, size)))
      (λ same. differ (stood-once i j a b same)))

  pub Apart-permutation : (xs ys : List X) → IsPermutation xs ys → Apart R xs → Apart R ys
  Apart-permutation xs ys moves apart = IsPermutation-keeps xs (Apart R) apart (λ l i j first second. swap-apart l i j first second) ys moves
