-- Sums over numbers from 0 up.
use Rattle.std.proofs.Common.{◌≡◌, ◌==◌, ℕ, zero, suc, ℤ, pos, ◌+ℤ◌, ◌*ℤ◌, ◌-ℤ◌, ◌≤ℤ◌, ◌+◌, ◌<◌, ◌≤◌, arith, refl, ap, sym, ◌∙◌, inl, inr, cond, add-one, eq-eqb}
use Rattle.std.proofs.lemmas.Int.{ints}
use Rattle.std.proofs.lemmas.Bool.{cases_eq, ne_eqb}
use Rattle.std.proofs.Math.IntN.{*ℤ-zero, *ℤ_comm, +ℤ_idl, +ℤ_idr}
use Rattle.bud_flow.specs.Sums.{sum_below, sum_at}
use Rattle.bud_flow.proofs.Ints.{mul-add, mul-sub}

-- one more term
pub sum_below-more : (n : ℕ) (f : ℕ → ℤ) → sum_below (n + 1) f ≡ sum_below n f +ℤ f n
sum_below-more n f = rw add-one refl

pub sum_below-same : (n : ℕ) (f g : ℕ → ℤ) → ((k : ℕ) → k < n → f k ≡ g k) → sum_below n f ≡ sum_below n g
sum_below-same zero f g same = refl
sum_below-same (suc n) f g same = omega (arith, ints, sum_below-same n f g (λ k below. same k (omega arith)), same n (omega arith))

pub sum_below-le : (n : ℕ) (f g : ℕ → ℤ) → ((k : ℕ) → k < n → f k ≤ℤ g k) → sum_below n f ≤ℤ sum_below n g
sum_below-le zero f g less = omega (arith, ints)
sum_below-le (suc n) f g less = omega (arith, ints, sum_below-le n f g (λ k below. less k (omega arith)), less n (omega arith))

pub sum_below-none : (n : ℕ) → sum_below n (λ k. pos 0) ≡ pos 0
sum_below-none zero = refl
sum_below-none (suc n) = omega (arith, ints, sum_below-none n)

pub sum_below-add : (n : ℕ) (f g : ℕ → ℤ) → sum_below n (λ k. f k +ℤ g k) ≡ sum_below n f +ℤ sum_below n g
sum_below-add zero f g = refl
sum_below-add (suc n) f g = omega (arith, ints, sum_below-add n f g)

pub sum_below-sub : (n : ℕ) (f g : ℕ → ℤ) → sum_below n (λ k. f k -ℤ g k) ≡ sum_below n f -ℤ sum_below n g
sum_below-sub zero f g = refl
sum_below-sub (suc n) f g = omega (arith, ints, sum_below-sub n f g)

pub sum_below-mul : (n : ℕ) (a : ℤ) (f : ℕ → ℤ) → sum_below n (λ k. a *ℤ f k) ≡ a *ℤ sum_below n f
sum_below-mul zero a f = sym (*ℤ-zero a)
sum_below-mul (suc n) a f = omega (arith, ints, sum_below-mul n a f, mul-add a (sum_below n f) (f n))

-- products with what two sums differ by
pub sum_below-spread : (n : ℕ) (x a b c d : ℕ → ℤ) → sum_below n (λ v. x v *ℤ ((a v +ℤ b v) -ℤ (c v +ℤ d v)))
    ≡ (sum_below n (λ v. x v *ℤ a v) +ℤ sum_below n (λ v. x v *ℤ b v)) -ℤ (sum_below n (λ v. x v *ℤ c v) +ℤ sum_below n (λ v. x v *ℤ d v))
sum_below-spread zero x a b c d = refl
sum_below-spread (suc n) x a b c d =
    omega (arith, ints, sum_below-spread n x a b c d, mul-sub (x n) (a n +ℤ b n) (c n +ℤ d n), mul-add (x n) (a n) (b n), mul-add (x n) (c n) (d n))

-- the order of two sums is free
pub sum_below-swap : (m n : ℕ) (f : ℕ → ℕ → ℤ) → sum_below m (λ j. sum_below n (λ k. f j k)) ≡ sum_below n (λ k. sum_below m (λ j. f j k))
sum_below-swap zero n f = sym (sum_below-none n)
sum_below-swap (suc m) n f = ap (λ x. x +ℤ sum_below n (f m)) (sum_below-swap m n f) ∙ sym (sum_below-add n (λ k. sum_below m (λ j. f j k)) (f m))

-- products with a number that stands at a place past all are 0
sum_below-outside : (n place : ℕ) (x : ℕ → ℤ) (a : ℤ) → n ≤ place → sum_below n (λ v. x v *ℤ cond (place == v) a (pos 0)) ≡ pos 0
sum_below-outside zero place x a past = refl
sum_below-outside (suc n) place x a past =
    rw (ne_eqb place n (omega arith), sum_below-outside n place x a (omega arith), *ℤ-zero (x n)) refl

-- and of the others that of the place is left
sum_below-one : (n place : ℕ) (x : ℕ → ℤ) (a : ℤ) → place < n → sum_below n (λ v. x v *ℤ cond (place == v) a (pos 0)) ≡ x place *ℤ a
sum_below-one zero place x a within = absurd (omega arith)
sum_below-one (suc n) place x a within = elim (cases_eq place n) [
  | inl same ↦ rw (eq-eqb place n same, sum_below-outside n place x a (omega arith), same) (+ℤ_idl (x n *ℤ a))
  | inr differs ↦ rw (ne_eqb place n differs, sum_below-one n place x a (omega arith), *ℤ-zero (x n)) (+ℤ_idr (x place *ℤ a))
]

-- numbers that stand at places, grouped by place
pub sum_at-exchange : (nodes count : ℕ) (place_of : ℕ → ℕ) (term x : ℕ → ℤ) → ((k : ℕ) → k < count → place_of k < nodes)
    → sum_below nodes (λ v. x v *ℤ sum_at count place_of term v) ≡ sum_below count (λ k. term k *ℤ x (place_of k))
sum_at-exchange nodes count place_of term x within =
    sum_below-same nodes _ _ (λ v _. sym (sum_below-mul count (x v) (λ k. cond (place_of k == v) (term k) (pos 0))))
    ∙ sum_below-swap nodes count (λ v k. x v *ℤ cond (place_of k == v) (term k) (pos 0))
    ∙ sum_below-same count _ _ (λ k below. sum_below-one nodes (place_of k) x (term k) (within k below) ∙ *ℤ_comm (x (place_of k)) (term k))
