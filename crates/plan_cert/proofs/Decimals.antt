-- A decimal number from its last digit on.
use Rattle.std.proofs.Common.{◌≡◌, ◌≢◌, ℕ, ◌+◌, ◌/◌, ◌%◌, ◌<◌, ◌≤◌, ◌^◌, List, [], ◌∷◌, ◌++◌, length, arith, ap, sym, ◌∙◌, inl, inr, refl}
use Rattle.std.proofs.lemmas.Bool.{cases_lt}
use Rattle.std.proofs.lemmas.Fmt.{decimal_digit, decimal_step, decimal_nonempty}
use Rattle.std.proofs.lemmas.List.{same_from_push}
use Rattle.std.specs.Fmt.{decimal}
use Rattle.std.specs.Prelude.{Bool, IsTrue, ◌==◌}

pub decimal_not_empty : (name : List ℕ) (n : ℕ) → n < 2 ^ 64 → length name ≡ 0 → name ≡ decimal n → ⊥
decimal_not_empty name n small empty is = omega (arith, ap length is, decimal_nonempty n small)

digit-mod : (n : ℕ) → n < 10 → n % 10 ≡ n
digit-mod n small = omega arith

-- one digit
pub decimal_one : (name front : List ℕ) (last n : ℕ) → n < 10 → name ≡ front ++ last ∷ [] → last ≡ 48 + n % 10
    → (front ≡ [] → name ≡ decimal n) × (name ≡ decimal n → front ≡ [])
decimal_one name front last n small parts digit =
    let ends : last ≡ 48 + n = omega (arith, digit-mod n small) in (
      λ empty. parts ∙ rw (empty, ends) (sym (decimal_digit n small)),
      λ is. (same_from_push front [] last (48 + n) (sym parts ∙ is ∙ decimal_digit n small)).0,
    )

-- several digits
pub decimal_more : (name front : List ℕ) (last n : ℕ) → 10 ≤ n → n < 2 ^ 64 → name ≡ front ++ last ∷ [] → last ≡ 48 + n % 10
    → (front ≡ decimal (n / 10) → name ≡ decimal n) × (name ≡ decimal n → front ≡ decimal (n / 10))
decimal_more name front last n large small parts digit = (
  λ is. parts ∙ rw (is, digit) (sym (decimal_step n large small)),
  λ is. (same_from_push front (decimal (n / 10)) last (48 + n % 10) (sym parts ∙ is ∙ decimal_step n large small)).0,
)

-- another last digit
pub decimal_other : (name front : List ℕ) (last n : ℕ) → n < 2 ^ 64 → name ≡ front ++ last ∷ [] → last ≢ 48 + n % 10 → name ≡ decimal n → ⊥
decimal_other name front last n small parts other is = elim (cases_lt n 10) [
  | inl one ↦ other (omega (arith, digit-mod n one, (same_from_push front [] last (48 + n) (sym parts ∙ is ∙ decimal_digit n one)).1))
  | inr more ↦ other (same_from_push front (decimal (n / 10)) last (48 + n % 10) (sym parts ∙ is ∙ decimal_step n more small)).1
]

-- a test of the length tells whether the list is empty
pub empty_from_length : (xs : List ℕ) (r : Bool) → r ≡ (length xs == 0) → (IsTrue r → xs ≡ []) × (xs ≡ [] → IsTrue r)
empty_from_length [] r test = (λ yes. refl, λ is. test)
empty_from_length (x ∷ xs) r test = (λ yes. grind arith, λ is. cc)
