-- Printed numbers are read as these numbers.
use Rattle.std.proofs.Common.{◌≡◌, ◌||◌, ℕ, suc, ◌^◌, ◌<◌, ◌==◌, ℤ, pos, negsuc, ◌-ℤ◌, true, false, not, Option, Some, List, [], ◌∷◌, length, refl, ap, ◌∙◌, rules, arith, decimal}
use Rattle.std.specs.Option.{option_map}
use Rattle.std.specs.Char.{is_ascii_digit}
use Rattle.std.specs.Str.{all_ascii_digits}
use Rattle.std.specs.Fmt.{signed_decimal}
use Rattle.std.specs.Int.Signed.{mag}
use Rattle.std.proofs.Math.Dec.{eqb-suc-zero}
use Rattle.std.specs.List.{list_all}
use Rattle.std.proofs.lemmas.Int.{ints}
use Rattle.std.proofs.lemmas.Bool.{and_parts}
use Rattle.std.proofs.lemmas.Bool.Decides.{nat_tests}
use Rattle.std.proofs.lemmas.Fmt.{digits_decimal, digits_value-decimal, decimal_nonempty}
use Rattle.std.proofs.lemmas.Str.Parse.{IsNumeralModel, numerals_by_weight}
use Rattle.text_scan.specs.Digits.{value_of}
use Rattle.line_text.specs.Parts.{Part, is_blank, is_feed}
use Rattle.line_text.specs.Numbers.{natural_of, whole_of, is_within, whole, count}
use Rattle.line_text.specs.Written.{is_field}

own : IsNumeralModel (λ ds. all_ascii_digits ds ≡ true) value_of
own = numerals_by_weight _ (search rules) value_of (search rules)

pub natural_of_digits : (ds : List ℕ) → 0 < length ds → all_ascii_digits ds ≡ true → natural_of ds ≡ Some (value_of ds)
natural_of_digits [] some digits = absurd (omega arith)
natural_of_digits (d ∷ ds) some digits = rw digits refl

-- a printed natural number
pub natural_printed : (n : ℕ) → n < 2 ^ 64 → natural_of (decimal n) ≡ Some n
natural_printed n low =
    natural_of_digits (decimal n) (decimal_nonempty n low) (digits_decimal own n low) ∙ ap (λ v. Some v) (digits_value-decimal own n low)

digit_no_sign : (d : ℕ) → is_ascii_digit d ≡ true → (d == 45) ≡ false
digit_no_sign d h = grind (arith, nat_tests)

pub whole_of_digits : (ds : List ℕ) → all_ascii_digits ds ≡ true → whole_of ds ≡ option_map pos (natural_of ds)
unfolding whole_of
whole_of_digits [] digits = refl
whole_of_digits (d ∷ ds) digits = rw (digit_no_sign d (and_parts (is_ascii_digit d) (all_ascii_digits ds) digits).0) refl

pub count_printed : (n : ℕ) → n < 2 ^ 64 → whole_of (decimal n) ≡ Some (pos n)
count_printed n low = whole_of_digits (decimal n) (digits_decimal own n low) ∙ ap (λ r. option_map pos r) (natural_printed n low)

-- a printed whole number
pub whole_printed : (z : ℤ) → mag z < 2 ^ 63 → whole_of (signed_decimal z) ≡ Some z
unfolding whole_of
whole_printed (pos n) low = count_printed n (omega arith)
whole_printed (negsuc n) low = rw (natural_printed (suc n) (omega arith)) (ap (λ m. Some m) minus_suc)
  where
    minus_suc : pos 0 -ℤ pos (suc n) ≡ negsuc n
    minus_suc = omega (arith, ints)

-- digits may stand as a field
digit_plain : (d : ℕ) → is_ascii_digit d ≡ true → not (is_blank d || is_feed d) ≡ true
digit_plain d h = grind (arith, nat_tests)

pub digits_plain : (ds : List ℕ) → all_ascii_digits ds ≡ true → list_all (λ b. not (is_blank b || is_feed b)) ds ≡ true
digits_plain [] h = refl
digits_plain (d ∷ ds) h =
    let parts = and_parts (is_ascii_digit d) (all_ascii_digits ds) h in
    rw (digit_plain d parts.0, digits_plain ds parts.1) refl

pub field_of_digits : (ds : List ℕ) → 0 < length ds → all_ascii_digits ds ≡ true → is_field ds ≡ true
field_of_digits [] some h = absurd (omega arith)
field_of_digits (d ∷ ds) some h = rw (eqb-suc-zero (length ds), digits_plain (d ∷ ds) h) refl

pub field_decimal : (n : ℕ) → n < 2 ^ 64 → is_field (decimal n) ≡ true
field_decimal n low = field_of_digits (decimal n) (decimal_nonempty n low) (digits_decimal own n low)

pub field_signed : (z : ℤ) → mag z < 2 ^ 63 → is_field (signed_decimal z) ≡ true
field_signed (pos n) low = field_decimal n (omega arith)
field_signed (negsuc n) low = rw (eqb-suc-zero (length (decimal (suc n))), digits_plain (decimal (suc n)) (digits_decimal own (suc n) (omega arith))) refl

-- a field that spells a number of the range
pub whole_reads : (least most z : ℤ) (at : ℕ) (f : List ℕ) (parts : List Part) (b : Option ℕ) → whole_of f ≡ Some z → is_within least most z ≡ true →
    whole least most (record { at = at; bytes = f } ∷ parts, b) ≡ Some (z, (parts, b))
unfolding whole
whole_reads least most z at f parts b spells within = rw (spells, within) refl

pub count_reads : (least most n at : ℕ) (f : List ℕ) (parts : List Part) (b : Option ℕ) → whole_of f ≡ Some (pos n) → is_within (pos least) (pos most) (pos n) ≡ true →
    count least most (record { at = at; bytes = f } ∷ parts, b) ≡ Some (n, (parts, b))
unfolding count
count_reads least most n at f parts b spells within = rw (whole_reads (pos least) (pos most) (pos n) at f parts b spells within) refl
