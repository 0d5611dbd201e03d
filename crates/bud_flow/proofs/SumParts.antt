-- Sums in parts.
use Rattle.std.proofs.Common.{◌≡◌, ℕ, zero, suc, ℤ, pos, ◌+ℤ◌, ◌+◌, ◌*◌, arith, ap, sym, ◌∙◌, add-suc}
use Rattle.std.proofs.lemmas.Int.{ints}
use Rattle.std.proofs.Math.IntN.{+ℤ_idr}
use Rattle.bud_flow.specs.Sums.{sum_below}

-- two parts
pub sum_below-parts : (m n : ℕ) (f : ℕ → ℤ) → sum_below (m + n) f ≡ sum_below m f +ℤ sum_below n (λ k. f (m + k))
sum_below-parts m zero f = let e : m + zero ≡ m = omega arith in ap (λ k. sum_below k f) e ∙ sym (+ℤ_idr (sum_below m f))
sum_below-parts m (suc n) f = rw (add-suc m n) (omega (arith, ints, sum_below-parts m n f))

-- four parts
pub sum_below-blocks : (m n o k : ℕ) (f : ℕ → ℤ)
    → sum_below (m + n + o + k) f
    ≡ (sum_below m f +ℤ sum_below n (λ i. f (m + i))) +ℤ (sum_below o (λ i. f (m + n + i)) +ℤ sum_below k (λ i. f (m + n + o + i)))
sum_below-blocks m n o k f = omega (arith, ints, sum_below-parts (m + n + o) k f, sum_below-parts (m + n) o f, sum_below-parts m n f)

-- equal terms
pub sum_below-constant : (n b : ℕ) → sum_below n (λ k. pos b) ≡ pos (n * b)
sum_below-constant zero b = omega (arith, ints)
sum_below-constant (suc n) b = omega (arith, ints, sum_below-constant n b)
