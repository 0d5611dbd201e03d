-- Times as the cursor reads them.
use Rattle.std.proofs.Common.{◌≡◌, ℕ, zero, suc, ◌+◌, ◌*◌, ◌^◌, ◌<◌, ◌&&◌, nat_le, ℤ, Bool, true, false, List, [], ◌∷◌, length, Ok, Err, cond, count_by, refl, sym, ap, ◌∙◌, arith}
use Rattle.std.specs.Char.{is_ascii_digit}
use Rattle.std.specs.List.{list_all, list_any}
use Rattle.std.proofs.lemmas.Bool.{and_parts}
use Rattle.std.proofs.lemmas.Bool.Decides.{nat_tests}
use Rattle.std.proofs.lemmas.Int.{ints}
use Rattle.std.proofs.lemmas.Grind.{common_steps}
use Rattle.std.proofs.lemmas.List.{length-append}
use Rattle.std.proofs.lemmas.List.Sums.{sum_by-cons}
use Rattle.text_scan.specs.Digits.{front, behind, value_of}
use Rattle.text_scan.specs.Decimals.{Decimal, IsLongest, ComesTo, digits_of, fraction_of, is_negative, scale_of, scaled}
use Rattle.text_scan.specs.Cursors.{Place, IsSmall, IsDecimalAnswer}
use Rattle.text_scan.specs.Scans.{behind_sign, point_of, scanned, is_away, IsQuotient}
use Rattle.text_scan.specs.declared.decimals.Round.{Round}
use Rattle.text_scan.specs.declared.decimals.ScanFault.TheVariants.{NotNumber, OutOfRange}
use Rattle.text_scan.proofs.Binds.{by_test}
use Rattle.text_scan.proofs.AmountLemmas.{rounded_by_sign}
use Rattle.text_scan.proofs.DecimalLaws.{longest_is, rounded_once}
use Rattle.text_scan.proofs.ScanLemmas.{scanned_begins}
use Rattle.sdc_reader.specs.declared.faults.SdcFault.TheVariants.{Value}
use Rattle.sdc_reader.specs.Numbers.{is_point, is_decimal_byte, is_decimal, quotient, amount_of, amount_in, is_small, time}

quotient_is : (away : Bool) (n size : ℕ) → 0 < size → IsQuotient away n size (quotient away n size)
quotient_is true n size some = (omega arith, omega arith)
quotient_is false n size some = (omega arith, omega arith)

scale_some : (k : ℕ) → 0 < 10 ^ k
scale_some zero = omega arith
scale_some (suc k) = (let h = scale_some k in omega arith)

-- what the longest number comes to
pub amount_is : (unit : ℕ) (round : Round) (text : List ℕ) (d : Decimal) (r : ℤ) → IsLongest text d → ComesTo unit round d r → r ≡ amount_in unit round text
amount_is unit round text d r longest comes =
    let negative = is_negative d.sign in
    let n = unit * value_of (digits_of d) in
    let here : r ≡ amount_of unit round d =
    rounded_once round (scaled unit d) (scale_of d) r (amount_of unit round d) comes
    (rounded_by_sign round negative n (scale_of d) (quotient (is_away round negative) n (scale_of d)) (quotient_is (is_away round negative) n (scale_of d) (scale_some (length (fraction_of d.point))))) in
    here ∙ ap (amount_of unit round) (longest_is text d longest)

small_is : (n : ℤ) → IsSmall n → is_small n ≡ true
small_is n small = grind (arith, ints, common_steps, small.low, small.high)

large_is : (n : ℤ) → (IsSmall n → ⊥) → is_small n ≡ false
large_is n large = by_test (is_small n) (λ small. absurd (large (record { low = grind (arith, ints, common_steps); high = grind (arith, ints, common_steps) }))) (λ other. other)

pub time_read : (unit : ℕ) (round : Round) (at : ℕ) (text : List ℕ) (new : Place) (r : ℤ) → is_decimal text ≡ true → IsDecimalAnswer (record { text = text; at = 0 }) new unit round (Ok r) → time unit round at text ≡ Ok r
unfolding time
time_read unit round at text new r decimal read =
    let same = amount_is unit round text read.0 r read.1.0 read.1.1 in
    rw (decimal, ← same, small_is r read.1.2) refl

pub time_far : (unit : ℕ) (round : Round) (at : ℕ) (text : List ℕ) (new : Place) → is_decimal text ≡ true → IsDecimalAnswer (record { text = text; at = 0 }) new unit round (Err OutOfRange) → time unit round at text ≡ Err (Value at)
unfolding time
time_far unit round at text new decimal read =
    let number = read.0 in
    let same = amount_is unit round text number.0 number.1.0 number.1.1.0 number.1.1.1 in
    rw (decimal, ← same, large_is number.1.0 number.1.1.2) refl

-- what is no digit among digits and points is a point
point_is : (b : ℕ) → is_decimal_byte b ≡ true → is_ascii_digit b ≡ false → is_point b ≡ true
point_is b all other = (let h : is_point b ≡ true = rw other at all in h)

one_point : (b : ℕ) (bs : List ℕ) → is_point b ≡ true → count_by is_point (b ∷ bs) ≡ 1 + count_by is_point bs
one_point b bs point = sum_by-cons (λ x. cond (is_point x) 1 0) b bs ∙ rw point refl

first_digit : (text : List ℕ) → list_all is_decimal_byte text ≡ true → list_any is_ascii_digit text ≡ true → count_by is_point text ≡ 0 → 0 < length (front text)
first_digit [] all some points = cc
first_digit (b ∷ bs) all some points =
    by_test (is_ascii_digit b)
    (λ digit. rw digit (omega arith))
    (λ other.
    let point = point_is b (and_parts (is_decimal_byte b) (list_all is_decimal_byte bs) all).0 other in
    let more : 1 + count_by is_point bs ≡ 0 = sym (one_point b bs point) ∙ points in
    absurd (omega arith))

-- a digit stands at the front, or behind a point there
digit_found : (text : List ℕ) → list_all is_decimal_byte text ≡ true → list_any is_ascii_digit text ≡ true → nat_le (count_by is_point text) 1 ≡ true → 0 < length (front text) + length (fraction_of (point_of (behind text)))
digit_found [] all some points = cc
digit_found (b ∷ bs) all some points =
    by_test (is_ascii_digit b)
    (λ digit. rw digit (omega arith))
    (λ other.
    let parts = and_parts (is_decimal_byte b) (list_all is_decimal_byte bs) all in
    let point = point_is b parts.0 other in
    let few : nat_le (1 + count_by is_point bs) 1 ≡ true = (rw (one_point b bs point) at points) in
    let rest : list_any is_ascii_digit bs ≡ true = rw other at some in
    let first = first_digit bs parts.1 rest (grind (arith, nat_tests)) in
    rw (other, point) (omega arith))

pub time_none : (unit : ℕ) (round : Round) (text : List ℕ) (new : Place) → is_decimal text ≡ true → IsDecimalAnswer (record { text = text; at = 0 }) new unit round (Err NotNumber) → ⊥
unfolding scanned
time_none unit round text new decimal read =
    let digits = behind_sign text in
    let parts = and_parts (list_all is_decimal_byte digits) (list_any is_ascii_digit digits && nat_le (count_by is_point digits) 1) decimal in
    let others = and_parts (list_any is_ascii_digit digits) (nat_le (count_by is_point digits) 1) parts.1 in
    let some = digit_found digits parts.0 others.0 others.1 in
    read.0 (scanned text) (scanned_begins text (rw length-append (omega arith)))
