-- Printed numbers are read as these numbers.
use Rattle.std.proofs.Common.{◌≡◌, ℕ, suc, ◌+◌, ◌*◌, ◌^◌, ◌<◌, ◌==◌, ◌&&◌, nat_le, ℤ, pos, negsuc, ◌-ℤ◌, Bool, true, false, List, [], ◌∷◌, ◌++◌, Some, None, Ok, cond, count_by, refl, ap, ◌∙◌, arith, decimal}
use Rattle.std.specs.Char.{is_ascii_digit}
use Rattle.std.specs.Fmt.{signed_decimal}
use Rattle.std.specs.Str.{all_ascii_digits}
use Rattle.std.specs.List.{list_all, list_any}
use Rattle.std.proofs.lemmas.Bool.{and_parts}
use Rattle.std.proofs.lemmas.Bool.Decides.{nat_tests}
use Rattle.std.proofs.lemmas.Grind.{common_steps}
use Rattle.std.proofs.lemmas.Int.{ints}
use Rattle.std.proofs.lemmas.List.{append-nil}
use Rattle.std.proofs.lemmas.List.Sums.{sum_by-cons}
use Rattle.text_scan.proofs.Binds.{by_test}
use Rattle.text_scan.specs.Digits.{front, behind, value_of}
use Rattle.text_scan.specs.Decimals.{Sign, Decimal, signed, is_negative}
use Rattle.text_scan.specs.Decimals.Sign.{bare, minus}
use Rattle.text_scan.specs.Scans.{sign_of, behind_sign, scanned, is_away}
use Rattle.text_scan.specs.declared.decimals.Round.{Round}
use Rattle.line_text.specs.Numbers.{natural_of, is_within}
use Rattle.line_text.proofs.PrintedLaws.{natural_printed, count_printed}
use Rattle.sdc_reader.specs.Numbers.{is_point, is_decimal_byte, is_decimal, quotient, amount_of, amount_in, is_small, time, count}
use Rattle.sdc_reader.specs.Words.{is_dashed}
use Rattle.sdc_writer.specs.Texts.{words}
use Rattle.sdc_writer.specs.Printable.{has_some}
use Rattle.sdc_writer.proofs.PlainWords.{is_plain, is_plain_word, IsKeptText, kept_words, word_kept}
use Rattle.sdc_writer.proofs.Elements.{is_element, word_element}

-- ---- digits
pub record AreDigits (text : List ℕ) (n : ℕ) : Type 0 where
  pub some : has_some text ≡ true
  pub digits : list_all is_ascii_digit text ≡ true
  pub value : value_of text ≡ n

same_number : (a b : ℕ) → Some a ≡ Some b → a ≡ b
same_number a b is = cc

each_digit : (ds : List ℕ) → all_ascii_digits ds ≡ true → list_all is_ascii_digit ds ≡ true
each_digit [] all = refl
each_digit (d ∷ ds) all =
    let parts = and_parts (is_ascii_digit d) (all_ascii_digits ds) all in
    rw (parts.0, each_digit ds parts.1) refl

natural_digits : (text : List ℕ) (n : ℕ) → natural_of text ≡ Some n → AreDigits text n
natural_digits [] n is = absurd (cc)
natural_digits (b ∷ bs) n is =
    by_test (all_ascii_digits (b ∷ bs))
    (λ digits. record { some = refl; digits = each_digit (b ∷ bs) digits; value = same_number _ _ (rw digits at is) })
    (λ other. absurd (let wrong : None ≡ Some n = rw other at is in cc))

pub decimal_digits : (n : ℕ) → n < 2 ^ 64 → AreDigits (decimal n) n
decimal_digits n low = natural_digits (decimal n) n (natural_printed n low)

digit_plain : (d : ℕ) → is_ascii_digit d ≡ true → is_plain d ≡ true
digit_plain d is = grind (arith, nat_tests)

digits_plain : (ds : List ℕ) → list_all is_ascii_digit ds ≡ true → list_all is_plain ds ≡ true
digits_plain [] all = refl
digits_plain (d ∷ ds) all =
    let parts = and_parts (is_ascii_digit d) (list_all is_ascii_digit ds) all in
    rw (digit_plain d parts.0, digits_plain ds parts.1) refl

digit_no_dash : (d : ℕ) → is_ascii_digit d ≡ true → (d == 45) ≡ false
digit_no_dash d is = grind (arith, nat_tests)

digit_no_plus : (d : ℕ) → is_ascii_digit d ≡ true → (d == 43) ≡ false
digit_no_plus d is = grind (arith, nat_tests)

digit_no_point : (d : ℕ) → is_ascii_digit d ≡ true → is_point d ≡ false
digit_no_point d is = grind (arith, nat_tests)

-- a bare word that is no option
pub record IsNumberWord (text : List ℕ) : Type 0 where
  pub plain : is_plain_word text ≡ true
  pub undashed : is_dashed text ≡ false

digits_word : (ds : List ℕ) → has_some ds ≡ true → list_all is_ascii_digit ds ≡ true → IsNumberWord ds
digits_word [] some all = absurd (cc)
digits_word (d ∷ []) some all =
    let first = (and_parts (is_ascii_digit d) (list_all is_ascii_digit []) all).0 in
    record { plain = digits_plain (d ∷ []) all; undashed = digit_no_dash d first }
digits_word (d ∷ (e ∷ ds)) some all =
    let first = (and_parts (is_ascii_digit d) (list_all is_ascii_digit (e ∷ ds)) all).0 in
    record { plain = digits_plain (d ∷ (e ∷ ds)) all; undashed = rw (digit_no_dash d first) refl }

minus_word : (ds : List ℕ) → has_some ds ≡ true → list_all is_ascii_digit ds ≡ true → IsNumberWord (45 ∷ ds)
minus_word [] some all = absurd (cc)
minus_word (d ∷ ds) some all =
    let first = (and_parts (is_ascii_digit d) (list_all is_ascii_digit ds) all).0 in
    record { plain = rw (digits_plain (d ∷ ds) all) refl; undashed = rw first refl }

pub natural_word : (n : ℕ) → n < 2 ^ 64 → IsNumberWord (decimal n)
natural_word n low = (let is = decimal_digits n low in digits_word (decimal n) is.some is.digits)

-- ---- times
front_digits : (ds : List ℕ) → list_all is_ascii_digit ds ≡ true → front ds ≡ ds
front_digits [] all = refl
front_digits (d ∷ ds) all =
    let parts = and_parts (is_ascii_digit d) (list_all is_ascii_digit ds) all in
    rw (parts.0, front_digits ds parts.1) refl

behind_digits : (ds : List ℕ) → list_all is_ascii_digit ds ≡ true → behind ds ≡ []
behind_digits [] all = refl
behind_digits (d ∷ ds) all =
    let parts = and_parts (is_ascii_digit d) (list_all is_ascii_digit ds) all in
    rw (parts.0, behind_digits ds parts.1) refl

abbrev whole_number : Sign → List ℕ → Decimal
whole_number sign ds = record { sign = sign; whole = ds; point = None }

scanned_is : (text rest : List ℕ) (sign : Sign) → sign_of text ≡ sign → behind_sign text ≡ rest → front rest ≡ rest → behind rest ≡ [] → scanned text ≡ whole_number sign rest
unfolding scanned
scanned_is text rest sign signs same whole none = rw (signs, same, none, whole) refl

no_sign : (ds : List ℕ) → list_all is_ascii_digit ds ≡ true → sign_of ds ≡ bare
no_sign [] all = refl
no_sign (d ∷ ds) all =
    let first = (and_parts (is_ascii_digit d) (list_all is_ascii_digit ds) all).0 in
    rw (digit_no_plus d first, digit_no_dash d first) refl

unsigned_same : (ds : List ℕ) → list_all is_ascii_digit ds ≡ true → behind_sign ds ≡ ds
unsigned_same [] all = refl
unsigned_same (d ∷ ds) all =
    let first = (and_parts (is_ascii_digit d) (list_all is_ascii_digit ds) all).0 in
    rw (digit_no_plus d first, digit_no_dash d first) refl

digits_scanned : (ds : List ℕ) → list_all is_ascii_digit ds ≡ true → scanned ds ≡ whole_number bare ds
digits_scanned ds all = scanned_is ds ds bare (no_sign ds all) (unsigned_same ds all) (front_digits ds all) (behind_digits ds all)

minus_scanned : (ds : List ℕ) → list_all is_ascii_digit ds ≡ true → scanned (45 ∷ ds) ≡ whole_number minus ds
minus_scanned ds all = scanned_is (45 ∷ ds) ds minus refl refl (front_digits ds all) (behind_digits ds all)

digit_byte : (d : ℕ) → is_ascii_digit d ≡ true → is_decimal_byte d ≡ true
digit_byte d is = rw is refl

digits_bytes : (ds : List ℕ) → list_all is_ascii_digit ds ≡ true → list_all is_decimal_byte ds ≡ true
digits_bytes [] all = refl
digits_bytes (d ∷ ds) all =
    let parts = and_parts (is_ascii_digit d) (list_all is_ascii_digit ds) all in
    rw (digit_byte d parts.0, digits_bytes ds parts.1) refl

any_digit : (ds : List ℕ) → has_some ds ≡ true → list_all is_ascii_digit ds ≡ true → list_any is_ascii_digit ds ≡ true
any_digit [] some all = absurd (cc)
any_digit (d ∷ ds) some all = rw ((and_parts (is_ascii_digit d) (list_all is_ascii_digit ds) all).0) refl

no_points : (ds : List ℕ) → list_all is_ascii_digit ds ≡ true → count_by is_point ds ≡ 0
no_points [] all = refl
no_points (d ∷ ds) all =
    let parts = and_parts (is_ascii_digit d) (list_all is_ascii_digit ds) all in
    let step : count_by is_point (d ∷ ds) ≡ 0 + count_by is_point ds = sum_by-cons (λ x. cond (is_point x) 1 0) d ds ∙ rw (digit_no_point d parts.0) refl in
    let rest = no_points ds parts.1 in
    omega (arith, step, rest)

abbrev are_decimal : List ℕ → Bool
are_decimal ds = list_all is_decimal_byte ds && (list_any is_ascii_digit ds && nat_le (count_by is_point ds) 1)

digits_decimal : (ds : List ℕ) → has_some ds ≡ true → list_all is_ascii_digit ds ≡ true → are_decimal ds ≡ true
digits_decimal ds some all = rw (digits_bytes ds all, any_digit ds some all, no_points ds all) refl

quotient_one : (away : Bool) (n m : ℕ) → m ≡ n → quotient away (1 * m) 1 ≡ n
quotient_one true n m same = omega arith
quotient_one false n m same = omega arith

whole_amount : (round : Round) (sign : Sign) (ds : List ℕ) (n : ℕ) → value_of ds ≡ n → amount_of 1 round (whole_number sign ds) ≡ signed (is_negative sign) n
whole_amount round sign ds n value =
    ap (signed (is_negative sign)) (quotient_one (is_away round (is_negative sign)) n (value_of (ds ++ [])) (rw (append-nil ds) value))

time_is : (round : Round) (at : ℕ) (text : List ℕ) (z : ℤ) → is_decimal text ≡ true → amount_in 1 round text ≡ z → is_small z ≡ true → time 1 round at text ≡ Ok z
unfolding time
time_is round at text z is amount small = rw (is, amount, small) refl

low_of : (n : ℕ) → is_small (pos n) ≡ true → n < 2 ^ 64
low_of n small = grind (arith, ints, common_steps)

low_below : (n : ℕ) → is_small (negsuc n) ≡ true → suc n < 2 ^ 64
low_below n small = grind (arith, ints, common_steps)

minus_suc : (n : ℕ) → pos 0 -ℤ pos (suc n) ≡ negsuc n
minus_suc n = omega (arith, ints)

pub time_printed : (round : Round) (at : ℕ) (z : ℤ) → is_small z ≡ true → time 1 round at (signed_decimal z) ≡ Ok z
time_printed round at (pos n) small =
    let is = decimal_digits n (low_of n small) in
    let ds = decimal n in
    time_is round at ds (pos n) (rw (unsigned_same ds is.digits) (digits_decimal ds is.some is.digits))
    (ap (amount_of 1 round) (digits_scanned ds is.digits) ∙ whole_amount round bare ds n is.value) small
time_printed round at (negsuc n) small =
    let is = decimal_digits (suc n) (low_below n small) in
    let ds = decimal (suc n) in
    time_is round at (45 ∷ ds) (negsuc n) (digits_decimal ds is.some is.digits)
    (ap (amount_of 1 round) (minus_scanned ds is.digits) ∙ whole_amount round minus ds (suc n) is.value ∙ minus_suc n) small

pub time_is_word : (z : ℤ) → is_small z ≡ true → IsNumberWord (signed_decimal z)
time_is_word (pos n) small = natural_word n (low_of n small)
time_is_word (negsuc n) small = (let is = decimal_digits (suc n) (low_below n small) in minus_word (decimal (suc n)) is.some is.digits)

-- the edges of a clock
abbrev pub edge_names : ℤ → ℤ → List (List ℕ)
edge_names rise fall = signed_decimal rise ∷ (signed_decimal fall ∷ [])

pub edges_kept : (rise fall : ℤ) → is_small rise ≡ true → is_small fall ≡ true → IsKeptText (words (edge_names rise fall))
edges_kept rise fall first second =
    kept_words (edge_names rise fall) (word_kept (signed_decimal rise) (time_is_word rise first).plain, (word_kept (signed_decimal fall) (time_is_word fall second).plain, tt))

pub edge_elements : (rise fall : ℤ) → is_small rise ≡ true → is_small fall ≡ true → list_all is_element (edge_names rise fall) ≡ true
edge_elements rise fall first second =
    rw (word_element (signed_decimal rise) (time_is_word rise first).plain, word_element (signed_decimal fall) (time_is_word fall second).plain) refl

-- ---- counts
pub record IsCount (n : ℕ) : Type 0 where
  pub least : nat_le 1 n ≡ true
  pub most : nat_le n 1000 ≡ true

pub count_low : (n : ℕ) → IsCount n → n < 2 ^ 64
count_low n is = (let most = is.most in grind (arith, nat_tests))

pub count_within : (n : ℕ) → IsCount n → is_within (pos 1) (pos 1000) (pos n) ≡ true
count_within n is = (let least = is.least in let most = is.most in grind (arith, ints, common_steps, nat_tests))

pub count_written : (at n : ℕ) → IsCount n → count at (decimal n) ≡ Ok n
unfolding count
count_written at n is = rw (count_printed n (count_low n is), count_within n is) refl
