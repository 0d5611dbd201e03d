-- Exceptions are read as they are written.
use Rattle.std.proofs.Common.{◌≡◌, ◌||◌, ℕ, ◌+◌, ◌^◌, ◌<◌, true, false, not, Option, Some, None, List, [], ◌∷◌, ◌++◌, length, refl, rules, arith, decimal}
use Rattle.std.specs.List.{list_all, slice_split}
use Rattle.std.specs.Char.{is_ascii_digit}
use Rattle.std.specs.Str.{all_ascii_digits}
use Rattle.std.proofs.Math.Dec.{eqb-suc-zero}
use Rattle.std.proofs.lemmas.Bool.{le-leb, and_parts}
use Rattle.std.proofs.lemmas.Bool.Decides.{nat_tests}
use Rattle.std.proofs.lemmas.List.Folds.{list_all-append}
use Rattle.std.proofs.lemmas.Fmt.{digits_decimal}
use Rattle.std.proofs.lemmas.Str.Parse.{IsNumeralModel, numerals_by_weight}
use Rattle.text_scan.specs.Digits.{value_of}
use Rattle.line_text.specs.Parts.{Part, is_blank, is_feed, is_empty}
use Rattle.line_text.specs.Numbers.{count}
use Rattle.line_text.specs.Written.{is_field}
use Rattle.line_text.proofs.PrintedLaws.{count_printed, count_reads, field_decimal, digits_plain}
use Rattle.cert_text.specs.Exceptions.{is_colon, steps, exception}
use Rattle.cert_text.specs.Writing.{exception_field, AreTextSteps, IsTextException}
use Rattle.cert_text.specs.declared.certs.CertException.{CertException}

abbrev part : ℕ → List ℕ → Part
part at bytes = record { at = at; bytes = bytes }

own : IsNumeralModel (λ ds. all_ascii_digits ds ≡ true) value_of
own = numerals_by_weight _ (search rules) value_of (search rules)

-- a printed number from 0 to 2^32 - 1 is read as it
pub count_written : (n at : ℕ) (parts : List Part) (b : Option ℕ) → n < 2 ^ 32 → count 0 4294967295 (part at (decimal n) ∷ parts, b) ≡ Some (n, (parts, b))
count_written n at parts b low =
    count_reads 0 4294967295 n at (decimal n) parts b (count_printed n (omega arith)) (rw (le-leb 0 n (omega arith), le-leb n 4294967295 (omega arith)) refl)

-- ---- colons
digit_no_colon : (d : ℕ) → is_ascii_digit d ≡ true → is_colon d ≡ false
digit_no_colon d h = grind (arith, nat_tests)

-- digits aren't cut, and what follows them is cut at the colon
cut_digits : (ds : List ℕ) → all_ascii_digits ds ≡ true → slice_split is_colon ds ≡ ds ∷ []
cut_digits [] digits = refl
cut_digits (d ∷ ds) digits =
    let parts = and_parts (is_ascii_digit d) (all_ascii_digits ds) digits in
    rw (digit_no_colon d parts.0, cut_digits ds parts.1) refl

cut_behind : (ds es : List ℕ) → all_ascii_digits ds ≡ true → slice_split is_colon (ds ++ 58 ∷ es) ≡ ds ∷ slice_split is_colon es
cut_behind [] es digits = refl
cut_behind (d ∷ ds) es digits =
    let parts = and_parts (is_ascii_digit d) (all_ascii_digits ds) digits in
    rw (digit_no_colon d parts.0, cut_behind ds es parts.1) refl

digits : (n : ℕ) → n < 2 ^ 32 → all_ascii_digits (decimal n) ≡ true
digits n low = digits_decimal own n (omega arith)

-- ---- exceptions
number_written : (n at : ℕ) (b : Option ℕ) → n < 2 ^ 32 → exception (part at (decimal n)) b ≡ Some (record { number = n; steps = None }, b)
unfolding exception steps
number_written n at b low = rw (cut_digits (decimal n) (digits n low), count_written n at [] b low) refl

numbers_written : (n s at : ℕ) (b : Option ℕ) → n < 2 ^ 32 → s < 2 ^ 32 → exception (part at (decimal n ++ (58 ∷ decimal s))) b ≡ Some (record { number = n; steps = Some s }, b)
unfolding exception steps
numbers_written n s at b low also =
    let behind = at + length (decimal n) + 1 in
    rw (
      cut_behind (decimal n) (decimal s) (digits n low),
      cut_digits (decimal s) (digits s also),
      count_written n at (part behind (decimal s) ∷ []) b low,
      count_written s behind [] b also,
    ) refl

exception_parts_written : (n : ℕ) (found : Option ℕ) (at : ℕ) (b : Option ℕ) → n < 2 ^ 32 → AreTextSteps found
    → exception (part at (exception_field (record { number = n; steps = found }))) b ≡ Some (record { number = n; steps = found }, b)
exception_parts_written n None at b low also = number_written n at b low
exception_parts_written n (Some s) at b low also = numbers_written n s at b low also

pub exception_written : (x : CertException) (at : ℕ) (b : Option ℕ) → IsTextException x → exception (part at (exception_field x)) b ≡ Some (x, b)
exception_written x at b low = exception_parts_written x.number x.steps at b low.number low.steps

-- ---- fields
field_longer : (bytes more : List ℕ) → is_field bytes ≡ true → list_all (λ b. not (is_blank b || is_feed b)) more ≡ true → is_field (bytes ++ more) ≡ true
field_longer [] more field plain = absurd (cc)
field_longer (b ∷ bs) more field plain =
    let parts = and_parts (not (is_empty (b ∷ bs))) (list_all (λ b. not (is_blank b || is_feed b)) (b ∷ bs)) field in
    rw (eqb-suc-zero (length (bs ++ more)), list_all-append (λ b. not (is_blank b || is_feed b)) (b ∷ bs) more, parts.1, plain) refl

parts_field : (n : ℕ) (found : Option ℕ) → n < 2 ^ 32 → AreTextSteps found → is_field (exception_field (record { number = n; steps = found })) ≡ true
parts_field n None low also = field_decimal n (omega arith)
parts_field n (Some s) low also =
    let small : s < 2 ^ 32 = also in
    field_longer (decimal n) (58 ∷ decimal s) (field_decimal n (omega arith)) (rw (digits_plain (decimal s) (digits s small)) refl)

pub exception_is_field : (x : CertException) → IsTextException x → is_field (exception_field x) ≡ true
exception_is_field x low = parts_field x.number x.steps low.number low.steps
