-- Lists in which each element comes before all that follow it.
use Rattle.std.proofs.Common.{◌≡◌, ℕ, zero, suc, ◌+◌, ◌-◌, ◌<◌, ◌≤◌, ◌==◌, ◌&&◌, ◌||◌, nat_lt, Bool, true, false, List, [], ◌∷◌, length, get_or, refl, sym, ◌∙◌, ap, subst, inl, inr, arith, eq-eqb}
use Rattle.std.specs.Prelude.{AllPairs}
use Rattle.std.proofs.Common.{drop}
use Rattle.std.proofs.lemmas.List.{drop_all}
use Rattle.std.proofs.lemmas.Bool.{cases_lt, cases_eq, true≢false}
use Rattle.bud_design.specs.declared.layers.Class.{Class}
use Rattle.bud_design.specs.declared.layers.Met.{Met}
use Rattle.bud_design.specs.Layers.{class_number, steps_before}
use Rattle.state_numbers.specs.Placed.{placed_before}
use Rattle.state_numbers.specs.Ranks.{key_before}
use Rattle.state_numbers.specs.declared.placed.Placed.{Placed}
use Rattle.state_numbers.specs.declared.ranks.KindKey.{KindKey}

pub AllPairs-from_adjacent : {X : Type 0} (R : X → X → Type 0) → ((x y z : X) → R x y → R y z → R x z) → (xs : List X)
    → ((k : ℕ) (d : X) → k + 1 < length xs → R (get_or xs k d) (get_or xs (k + 1) d)) → AllPairs R xs
AllPairs-from_adjacent {X} R joins xs next i j d before within = let gap : i + 1 + (j - (i + 1)) ≡ j = omega (arith, before) in subst (λ k. R (get_or xs i d) (get_or xs k d)) gap (far (j - (i + 1)) (omega (arith, before, within)))
  where
    far : (gap : ℕ) → i + 1 + gap < length xs → R (get_or xs i d) (get_or xs (i + 1 + gap) d)
    far zero below = let e : i + 1 + zero ≡ i + 1 = omega arith in subst (λ k. R (get_or xs i d) (get_or xs k d)) (sym e) (next i d (omega (arith, below)))
    far (suc gap) below =
        let e : i + 1 + suc gap ≡ (i + 1 + gap) + 1 = omega arith in
        subst (λ k. R (get_or xs i d) (get_or xs k d)) (sym e) (joins _ _ _ (far gap (omega (arith, below))) (next (i + 1 + gap) d (omega (arith, below))))

-- in order of a number, and where it is equal by a test
pub by_number_joins : (a b c : ℕ) (p q r : Bool) → (nat_lt a b || (a == b && p)) ≡ true → (nat_lt b c || (b == c && q)) ≡ true → (p ≡ true → q ≡ true → r ≡ true)
    → (nat_lt a c || (a == c && r)) ≡ true
by_number_joins a b c p q r first second rest = elim (cases_lt a c) [
  | inl less ↦ let e : nat_lt a c ≡ true = grind (arith, less) in rw e refl
  | inr most ↦
      let same : a ≡ b = grind (arith, first, second, most) in
      let also : b ≡ c = grind (arith, first, second, most) in
      let here : p ≡ true = grind (arith, first, same) in
      let there : q ≡ true = grind (arith, second, also) in
      let e : nat_lt a c ≡ false = grind (arith, most) in
      rw (e, eq-eqb a c (same ∙ also), rest here there) refl
]

pub placed_before-joins : (x y z : Placed) → placed_before x y ≡ true → placed_before y z ≡ true → placed_before x z ≡ true
placed_before-joins x y z first second =
    by_number_joins x.«class» y.«class» z.«class» (nat_lt x.number y.number) (nat_lt y.number z.number) (nat_lt x.number z.number) first second
    (λ less more. grind (arith, less, more))

steps_before-joins : (xs ys zs : List Met) → steps_before xs ys ≡ true → steps_before ys zs ≡ true → steps_before xs zs ≡ true
steps_before-joins [] ys zs first second = absurd (true≢false (sym first))
steps_before-joins (x ∷ xs) [] zs first second = absurd (true≢false (sym first))
steps_before-joins (x ∷ xs) (y ∷ ys) [] first second = absurd (true≢false (sym second))
steps_before-joins (x ∷ xs) (y ∷ ys) (z ∷ zs) first second =
    by_number_joins x.steps y.steps z.steps (steps_before xs ys) (steps_before ys zs) (steps_before xs zs) first second (λ less more. steps_before-joins xs ys zs less more)

pub key_before-joins : (classes : List Class) (x y z : KindKey) → key_before classes x y ≡ true → key_before classes y z ≡ true → key_before classes x z ≡ true
key_before-joins classes x y z first second =
    by_number_joins x.launch y.launch z.launch (steps_before (class_number classes x.kind).exceptions (class_number classes y.kind).exceptions)
    (steps_before (class_number classes y.kind).exceptions (class_number classes z.kind).exceptions)
    (steps_before (class_number classes x.kind).exceptions (class_number classes z.kind).exceptions) first second
    (λ less more. steps_before-joins (class_number classes x.kind).exceptions (class_number classes y.kind).exceptions (class_number classes z.kind).exceptions less more)

steps_before-none : (xs : List Met) → steps_before xs [] ≡ false
steps_before-none [] = refl
steps_before-none (x ∷ xs) = refl

-- behind the last step of the others nothing comes before
pub steps_before-past : (xs ys : List Met) (place : ℕ) → length ys ≤ place → steps_before xs (drop place ys) ≡ false
steps_before-past xs ys place past = rw (drop_all place ys past) (steps_before-none xs)
