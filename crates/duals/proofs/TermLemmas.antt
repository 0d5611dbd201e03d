-- Lists of terms, and sums of small products, that grow.
use Rattle.std.proofs.Common.{◌≡◌, ℕ, ℤ, pos, negsuc, ◌+ℤ◌, ◌*ℤ◌, ◌≤ℤ◌, ◌+◌, ◌*◌, ◌≤◌, List, [], ◌∷◌, ◌++◌, arith, ap, sym, subst, ◌∙◌, inl, inr, length-append, mul-le-mul_left, mul-le-mul_right}
use Rattle.std.proofs.lemmas.Int.{ints}
use Rattle.std.proofs.lemmas.Bool.{cases_eq}
use Rattle.std.proofs.lemmas.List.{get_or_push, get_or_append_left}
use Rattle.bud_flow.proofs.SumLemmas.{sum_below-more}
use Rattle.duals.specs.Terms.{AreTerms, IsSmallProduct, IsSmallTotal}

-- one term more
pub AreTerms-more : (term : ℕ → ℤ) (k : ℕ) (numbers : List ℤ) (x : ℤ) → AreTerms term k numbers → x ≡ term k → AreTerms term (k + 1) (numbers ++ x ∷ [])
AreTerms-more term k numbers x so_far is = record {
  size = omega (arith, length-append numbers (x ∷ []), so_far.size);
  each = λ j below. elim (cases_eq j k) [
    | inl same ↦ rw same (get_or_push numbers x (pos 0) k so_far.size ∙ is)
    | inr other ↦ get_or_append_left numbers (x ∷ []) (pos 0) j (omega (arith, so_far.size)) ∙ so_far.each j (omega arith)
  ];
}

pub AreTerms-pushed : (term : ℕ → ℤ) (k : ℕ) (numbers after : List ℤ) (x : ℤ) → AreTerms term k numbers → after ≡ numbers ++ x ∷ [] → x ≡ term k → AreTerms term (k + 1) after
AreTerms-pushed term k numbers after x so_far grown is = subst (AreTerms term (k + 1)) (sym grown) (AreTerms-more term k numbers x so_far is)

-- the same list and the same count
pub AreTerms-same : (term : ℕ → ℤ) (k count : ℕ) (numbers after : List ℤ) → AreTerms term k numbers → after ≡ numbers → k ≡ count → AreTerms term count after
AreTerms-same term k count numbers after terms same all = rw (same, ← all) terms

product_below : (m n : ℕ) → m ≤ 1048576 → n ≤ 2000000000 → m * n ≤ 2097152000000000
product_below m n left right = omega (arith, mul-le-mul_left m right, mul-le-mul_right 2000000000 left)

-- a small weight times a small budget
pub IsSmallProduct-of : (weight : ℕ) (budget z : ℤ) → weight ≤ 1048576 → pos 0 ≤ℤ budget → budget ≤ℤ pos 2000000000 → z ≡ pos weight *ℤ budget → IsSmallProduct z
IsSmallProduct-of weight (pos n) z small least most is =
    let below : weight * n ≤ 2097152000000000 = product_below weight n small (omega (arith, ints, most)) in
    record { low = omega (arith, ints, is); high = omega (arith, ints, is) }
IsSmallProduct-of weight (negsuc n) z small least most is = absurd (omega (arith, ints, least))

pub product-is : (z weight a b : ℤ) → z ≡ weight *ℤ a → a ≡ b → z ≡ weight *ℤ b
product-is z weight a b is same = is ∙ ap (λ x. weight *ℤ x) same

-- one product more
pub IsSmallTotal-more : (term : ℕ → ℤ) (k : ℕ) (total more next : ℤ) → IsSmallTotal term k total → IsSmallProduct more → more ≡ term k → next ≡ total +ℤ more → IsSmallTotal term (k + 1) next
IsSmallTotal-more term k total more next so_far small is sum = record {
  value = omega (arith, ints, so_far.value, sum_below-more k term);
  low = omega (arith, ints, so_far.low, small.low);
  high = omega (arith, ints, so_far.high, small.high);
}
