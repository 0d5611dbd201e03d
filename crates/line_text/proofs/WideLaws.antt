-- Printed numbers of many digits are read as these numbers.
use Rattle.std.proofs.Common.{◌≡◌, ℕ, suc, ◌+◌, ◌-◌, ◌*◌, ◌^◌, ◌%◌, ◌<◌, ℤ, pos, negsuc, ◌-ℤ◌, true, Some, List, [], ◌∷◌, ◌++◌, length, refl, ap, ◌∙◌, arith, length-append, decimal}
use Rattle.std.proofs.Math.Nat.{pow-suc}
use Rattle.std.proofs.Math.Dec.{eqb-suc-zero}
use Rattle.std.specs.Option.{option_map}
use Rattle.std.specs.Char.{is_ascii_digit}
use Rattle.std.specs.Str.{all_ascii_digits}
use Rattle.std.specs.Fmt.{signed_decimal}
use Rattle.std.specs.Int.Signed.{mag}
use Rattle.std.proofs.lemmas.Int.{ints}
use Rattle.std.proofs.lemmas.Bool.{and_parts}
use Rattle.std.proofs.lemmas.Bool.Decides.{nat_tests}
use Rattle.std.proofs.lemmas.Fmt.{decimal_by_steps_wide}
use Rattle.text_scan.specs.Digits.{value_of}
use Rattle.line_text.specs.Numbers.{natural_of, whole_of}
use Rattle.line_text.specs.Written.{is_field}
use Rattle.line_text.proofs.PrintedLaws.{natural_of_digits, whole_of_digits, digits_plain, field_of_digits}

-- digits that stand for the number
record Spells (n : ℕ) (ds : List ℕ) : Type 0 where
  some : 0 < length ds
  digits : all_ascii_digits ds ≡ true
  value : value_of ds ≡ n

is_digit : (d : ℕ) → d < 10 → is_ascii_digit (48 + d) ≡ true
is_digit d low = grind (arith, nat_tests)

digits-push : (ds : List ℕ) (d : ℕ) → all_ascii_digits ds ≡ true → is_ascii_digit d ≡ true → all_ascii_digits (ds ++ d ∷ []) ≡ true
digits-push [] d all one = rw one refl
digits-push (x ∷ ds) d all one =
    let parts = and_parts (is_ascii_digit x) (all_ascii_digits ds) all in
    rw (parts.0, digits-push ds d parts.1 one) refl

value_of-push : (ds : List ℕ) (d : ℕ) → value_of (ds ++ d ∷ []) ≡ value_of ds * 10 + (d - 48)
value_of-push [] d = omega arith
value_of-push (x ∷ ds) d =
    let long : length (ds ++ d ∷ []) ≡ suc (length ds) = omega (arith, length-append ds (d ∷ [])) in
    rw (long, pow-suc, value_of-push ds d) (omega arith)

one_spelled : (n : ℕ) → n < 10 → Spells n ((48 + n) ∷ [])
one_spelled n small = record { some = omega arith; digits = digits-push [] (48 + n) refl (is_digit n small); value = omega arith }

spelled : (n : ℕ) → n < 10 ^ 64 → Spells n (decimal n)
spelled n low = decimal_by_steps_wide Spells
    one_spelled
    (λ n ds large tail. record {
      some = omega (arith, length-append ds ((48 + n % 10) ∷ []));
      digits = digits-push ds (48 + n % 10) tail.digits (is_digit (n % 10) (omega arith));
      value = value_of-push ds (48 + n % 10) ∙ omega (arith, tail.value);
    }) n low

-- a printed natural number
pub wide_natural_printed : (n : ℕ) → n < 10 ^ 64 → natural_of (decimal n) ≡ Some n
wide_natural_printed n low = let s = spelled n low in natural_of_digits (decimal n) s.some s.digits ∙ ap (λ v. Some v) s.value

-- a printed whole number
pub wide_whole_printed : (z : ℤ) → mag z + 1 < 10 ^ 64 → whole_of (signed_decimal z) ≡ Some z
unfolding whole_of
wide_whole_printed (pos n) low = whole_of_digits (decimal n) (spelled n (omega arith)).digits ∙ ap (λ r. option_map pos r) (wide_natural_printed n (omega arith))
wide_whole_printed (negsuc n) low = rw (wide_natural_printed (suc n) (omega arith)) (ap (λ m. Some m) minus_suc)
  where
    minus_suc : pos 0 -ℤ pos (suc n) ≡ negsuc n
    minus_suc = omega (arith, ints)

-- and it may stand as a field
pub wide_field_signed : (z : ℤ) → mag z + 1 < 10 ^ 64 → is_field (signed_decimal z) ≡ true
wide_field_signed (pos n) low = let s = spelled n (omega arith) in field_of_digits (decimal n) s.some s.digits
wide_field_signed (negsuc n) low = rw (eqb-suc-zero (length (decimal (suc n))), digits_plain (decimal (suc n)) (spelled (suc n) (omega arith)).digits) refl
