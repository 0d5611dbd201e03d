-- Sums of products.
use Rattle.std.proofs.Common.{◌≡◌, ℕ, suc, inl, inr, ℤ, pos, negsuc, ◌+ℤ◌, ◌-ℤ◌, ◌*ℤ◌, ◌≤ℤ◌, ◌+◌, ◌*◌, ◌≤◌, arith, ap, ◌∙◌, mul-le-mul_left, mul-le-mul_right}
use Rattle.std.proofs.lemmas.Int.{ints}
use Rattle.std.proofs.lemmas.Bool.{cases_Bool}
use Rattle.std.specs.Prelude.{int_lt}
use Rattle.bud_base.specs.declared.problems.Item.{Item}
use Rattle.bud_flow.specs.Flows.{item_value}
use Rattle.bud_flow.proofs.SumLemmas.{sum_below-more}
use Rattle.plan_cert.specs.Totals.{IsFactor, IsProduct, IsTotal}

-- a product of numbers up to 2^45
product_below : (m n : ℕ) → m ≤ 35184372088832 → n ≤ 35184372088832 → m * n ≤ 1237940039285380274899124224
product_below m n left right = omega (arith, mul-le-mul_left m right, mul-le-mul_right 35184372088832 left)

-- the product of two factors
pub IsProduct-of : (a b z : ℤ) → IsFactor a → IsFactor b → z ≡ a *ℤ b → IsProduct z
IsProduct-of (pos m) (pos n) z left right is =
    let below = product_below m n (omega (arith, ints, left)) (omega (arith, ints, right)) in
    record { low = omega (arith, ints, is); high = omega (arith, ints, is) }
IsProduct-of (pos m) (negsuc n) z left right is =
    let below = product_below m (suc n) (omega (arith, ints, left)) (omega (arith, ints, right)) in
    record { low = omega (arith, ints, is); high = omega (arith, ints, is) }
IsProduct-of (negsuc m) (pos n) z left right is =
    let below = product_below (suc m) n (omega (arith, ints, left)) (omega (arith, ints, right)) in
    record { low = omega (arith, ints, is); high = omega (arith, ints, is) }
IsProduct-of (negsuc m) (negsuc n) z left right is =
    let below = product_below (suc m) (suc n) (omega (arith, ints, left)) (omega (arith, ints, right)) in
    record { low = omega (arith, ints, is); high = omega (arith, ints, is) }

-- equal factors give equal products
pub product-same : (z a b x y : ℤ) → z ≡ a *ℤ b → a ≡ x → b ≡ y → z ≡ x *ℤ y
product-same z a b x y is left right = is ∙ ap (λ v. v *ℤ b) left ∙ ap (λ v. x *ℤ v) right

-- the value of an item whose flow isn't below its weight
pub item_value-above : (x : Item) (f r : ℤ) → pos x.weight ≤ℤ f → r ≡ pos 0 -ℤ (f -ℤ pos x.weight) *ℤ x.least → r ≡ item_value x f
item_value-above x f r above is = elim (cases_Bool (int_lt f (pos x.weight))) [
  | inl below ↦ absurd (omega (arith, ints, below))
  | inr same ↦ rw same is
]

-- one more product
pub IsTotal-more : (term : ℕ → ℤ) (k : ℕ) (total more next : ℤ) → IsTotal term k total → IsProduct more → more ≡ term k → next ≡ total +ℤ more → IsTotal term (k + 1) next
IsTotal-more term k total more next so_far range is sum = record {
  value = omega (arith, ints, so_far.value, sum_below-more k term);
  low = omega (arith, ints, so_far.low);
  high = omega (arith, ints, so_far.high);
}
