-- The pieces at the front of a text are its longest number.
use Rattle.std.proofs.Common.{◌≡◌, ℕ, ◌+◌, ◌<◌, ◌≤◌, ◌==◌, true, false, Option, Some, None, List, [], ◌∷◌, ◌++◌, length, refl, sym, ap, ◌∙◌, arith, append_assoc}
use Rattle.std.specs.Char.{is_ascii_digit}
use Rattle.std.specs.Str.{all_ascii_digits}
use Rattle.std.proofs.lemmas.Bool.{and_parts, eqb-true}
use Rattle.std.proofs.lemmas.Bool.Decides.{nat_tests}
use Rattle.std.proofs.lemmas.List.{append-nil, length-append}
use Rattle.text_scan.specs.Digits.{front, behind}
use Rattle.text_scan.specs.Decimals.{Sign, Decimal, spelling, sign_bytes, point_bytes, fraction_of, digits_of, Begins, IsLongest}
use Rattle.text_scan.specs.Decimals.Sign.{bare, plus, minus}
use Rattle.text_scan.specs.Scans.{sign_of, behind_sign, point_of, behind_point, scanned}
use Rattle.text_scan.proofs.Binds.{by_test}

-- a text is the digits at its front and what stands behind them
pub front-behind : (text : List ℕ) → text ≡ front text ++ behind text
front-behind [] = refl
front-behind (b ∷ bs) = by_test (is_ascii_digit b) (λ digit. rw digit (ap (λ rest. b ∷ rest) (front-behind bs))) (λ other. rw other refl)

pub all_front : (text : List ℕ) → all_ascii_digits (front text) ≡ true
all_front [] = refl
all_front (b ∷ bs) = by_test (is_ascii_digit b) (λ digit. rw (digit, digit, all_front bs) refl) (λ other. rw other refl)

sign_behind : (text : List ℕ) → text ≡ sign_bytes (sign_of text) ++ behind_sign text
sign_behind [] = refl
sign_behind (b ∷ bs) =
    by_test (b == 43)
    (λ plus. rw (eqb-true b 43 plus) refl)
    (λ other. by_test (b == 45) (λ minus. rw (eqb-true b 45 minus) refl) (λ bare. rw (other, bare) refl))

point_behind : (text : List ℕ) → text ≡ point_bytes (point_of text) ++ behind_point text
point_behind [] = refl
point_behind (b ∷ bs) =
    by_test (b == 46) (λ point. rw (eqb-true b 46 point) (ap (λ rest. 46 ∷ rest) (front-behind bs))) (λ other. rw other refl)

-- a text is the spelling of its pieces, and what stands behind them
pub scanned_spelled : (text : List ℕ) → text ≡ spelling (scanned text) ++ behind_point (behind (behind_sign text))
unfolding scanned
scanned_spelled text =
    let t = behind_sign text in
    let sign = sign_bytes (sign_of text) in
    let point = point_bytes (point_of (behind t)) in
    let rest = behind_point (behind t) in
    sign_behind text
    ∙ ap (λ bytes. sign ++ bytes) (front-behind t ∙ ap (λ bytes. front t ++ bytes) (point_behind (behind t)) ∙ sym (append_assoc (front t) point rest))
    ∙ sym (append_assoc sign (front t ++ point) rest)

-- digits before a text join those at its front
front-append : (xs ys : List ℕ) → all_ascii_digits xs ≡ true → front (xs ++ ys) ≡ xs ++ front ys
front-append [] ys digits = refl
front-append (x ∷ xs) ys digits =
    let parts = and_parts (is_ascii_digit x) (all_ascii_digits xs) digits in
    rw (parts.0, front-append xs ys parts.1) refl

behind-append : (xs ys : List ℕ) → all_ascii_digits xs ≡ true → behind (xs ++ ys) ≡ behind ys
behind-append [] ys digits = refl
behind-append (x ∷ xs) ys digits =
    let parts = and_parts (is_ascii_digit x) (all_ascii_digits xs) digits in
    rw (parts.0, behind-append xs ys parts.1) refl

all-append : (xs ys : List ℕ) → all_ascii_digits (xs ++ ys) ≡ true → (all_ascii_digits xs ≡ true) × (all_ascii_digits ys ≡ true)
all-append [] ys digits = (refl, digits)
all-append (x ∷ xs) ys digits =
    let parts = and_parts (is_ascii_digit x) (all_ascii_digits (xs ++ ys)) digits in
    let rest = all-append xs ys parts.1 in
    (rw (parts.0, rest.0) refl, rest.1)

all_joined : (xs ys : List ℕ) → all_ascii_digits xs ≡ true → all_ascii_digits ys ≡ true → all_ascii_digits (xs ++ ys) ≡ true
all_joined [] ys first second = second
all_joined (x ∷ xs) ys first second =
    let parts = and_parts (is_ascii_digit x) (all_ascii_digits xs) first in
    rw (parts.0, all_joined xs ys parts.1 second) refl

no_plus : (d : ℕ) → is_ascii_digit d ≡ true → (d == 43) ≡ false
no_plus d digit = grind (arith, nat_tests)

no_minus : (d : ℕ) → is_ascii_digit d ≡ true → (d == 45) ≡ false
no_minus d digit = grind (arith, nat_tests)

-- digits and a point do not begin with a sign
bare_front : (whole : List ℕ) (point : Option (List ℕ)) (rest : List ℕ) → all_ascii_digits (whole ++ fraction_of point) ≡ true → 0 < length (whole ++ fraction_of point) →
    (sign_of ((whole ++ point_bytes point) ++ rest) ≡ bare) × (behind_sign ((whole ++ point_bytes point) ++ rest) ≡ (whole ++ point_bytes point) ++ rest)
bare_front [] None rest digits some = absurd (omega arith)
bare_front [] (Some ds) rest digits some = (refl, refl)
bare_front (w ∷ ws) point rest digits some =
    let digit = (and_parts (is_ascii_digit w) (all_ascii_digits (ws ++ fraction_of point)) digits).0 in
    (rw (no_plus w digit, no_minus w digit) refl, rw (no_plus w digit, no_minus w digit) refl)

behind_own_sign : (sign : Sign) (whole : List ℕ) (point : Option (List ℕ)) (rest : List ℕ) → all_ascii_digits (whole ++ fraction_of point) ≡ true → 0 < length (whole ++ fraction_of point) →
    (sign_of (sign_bytes sign ++ ((whole ++ point_bytes point) ++ rest)) ≡ sign) × (behind_sign (sign_bytes sign ++ ((whole ++ point_bytes point) ++ rest)) ≡ (whole ++ point_bytes point) ++ rest)
behind_own_sign bare whole point rest digits some = bare_front whole point rest digits some
behind_own_sign plus whole point rest digits some = (refl, refl)
behind_own_sign minus whole point rest digits some = (refl, refl)

-- a number with the digits, and where it has none the point, that stand behind it
abbrev pub extended : Sign → List ℕ → Option (List ℕ) → List ℕ → Decimal
extended sign whole None rest = record { sign = sign; whole = whole ++ front rest; point = point_of (behind rest) }
extended sign whole (Some ds) rest = record { sign = sign; whole = whole; point = Some (ds ++ front rest) }

-- what is scanned goes on behind any number that stands there
scanned_extends : (sign : Sign) (whole : List ℕ) (point : Option (List ℕ)) (rest : List ℕ) → all_ascii_digits (whole ++ fraction_of point) ≡ true → 0 < length (whole ++ fraction_of point) →
    scanned (sign_bytes sign ++ ((whole ++ point_bytes point) ++ rest)) ≡ extended sign whole point rest
unfolding scanned
scanned_extends sign whole None rest digits some =
    let signs = behind_own_sign sign whole None rest digits some in
    let all : all_ascii_digits whole ≡ true = rw append-nil at digits in
    rw (signs.0, signs.1, append-nil whole, front-append whole rest all, behind-append whole rest all) refl
scanned_extends sign whole (Some ds) rest digits some =
    let signs = behind_own_sign sign whole (Some ds) rest digits some in
    let parts = all-append whole ds digits in
    rw (
      signs.0,
      signs.1,
      append_assoc whole (46 ∷ ds) rest,
      front-append whole (46 ∷ (ds ++ rest)) parts.0,
      behind-append whole (46 ∷ (ds ++ rest)) parts.0,
      append-nil whole,
      front-append ds rest parts.1,
    ) refl

-- what is longer by some digits has digits too, and is longer
extended_long : (sign : Sign) (whole : List ℕ) (point : Option (List ℕ)) (rest : List ℕ) → length (spelling (record { sign = sign; whole = whole; point = point })) ≤ length (spelling (extended sign whole point rest))
extended_long sign whole None rest = simp (length-append, append-nil) (omega arith)
extended_long sign whole (Some ds) rest = simp length-append (omega arith)

extended_some : (sign : Sign) (whole : List ℕ) (point : Option (List ℕ)) (rest : List ℕ) → 0 < length (whole ++ fraction_of point) → 0 < length (digits_of (extended sign whole point rest))
extended_some sign whole None rest some = (let h : 0 < length whole = rw append-nil at some in simp length-append (omega arith))
extended_some sign whole (Some ds) rest some = (let h : 0 < length whole + length ds = rw length-append at some in simp length-append (omega arith))

pub all_point : (text : List ℕ) → all_ascii_digits (fraction_of (point_of text)) ≡ true
all_point [] = refl
all_point (b ∷ bs) = by_test (b == 46) (λ point. rw point (all_front bs)) (λ other. rw other refl)

-- what is scanned is made of digits
pub scanned_whole : (text : List ℕ) → all_ascii_digits (scanned text).whole ≡ true
unfolding scanned
scanned_whole text = all_front (behind_sign text)

pub scanned_fraction : (text : List ℕ) → all_ascii_digits (fraction_of (scanned text).point) ≡ true
unfolding scanned
scanned_fraction text = all_point (behind (behind_sign text))

scanned_digits : (text : List ℕ) → all_ascii_digits (digits_of (scanned text)) ≡ true
scanned_digits text = all_joined (scanned text).whole (fraction_of (scanned text).point) (scanned_whole text) (scanned_fraction text)

-- where what is scanned has a digit, it stands at the front
pub scanned_begins : (text : List ℕ) → 0 < length (digits_of (scanned text)) → Begins text (scanned text)
scanned_begins text some = record {
  rest = behind_point (behind (behind_sign text));
  spelled = scanned_spelled text;
  digits = scanned_digits text;
  some = some;
}

-- a text with a number at its front is that number's spelling, and the rest
spelled_out : (text : List ℕ) (d : Decimal) → (given : Begins text d) → text ≡ sign_bytes d.sign ++ ((d.whole ++ point_bytes d.point) ++ given.rest)
spelled_out text d given = given.spelled ∙ append_assoc (sign_bytes d.sign) (d.whole ++ point_bytes d.point) given.rest

pub scanned_of : (text : List ℕ) (d : Decimal) → (given : Begins text d) → scanned text ≡ extended d.sign d.whole d.point given.rest
scanned_of text d given = ap scanned (spelled_out text d given) ∙ scanned_extends d.sign d.whole d.point given.rest given.digits given.some

-- where a number stands at the front, what is scanned has a digit
pub scanned_some : (text : List ℕ) (d : Decimal) → Begins text d → 0 < length (digits_of (scanned text))
scanned_some text d given = rw (scanned_of text d given) (extended_some d.sign d.whole d.point given.rest given.some)

-- and is the longest
pub scanned_longest : (text : List ℕ) → 0 < length (digits_of (scanned text)) → IsLongest text (scanned text)
scanned_longest text some = record {
  begins = scanned_begins text some;
  longest = λ other given. rw (scanned_of text other given) (extended_long other.sign other.whole other.point given.rest);
}

-- where what is scanned has no digit, no number stands at the front
pub scanned_none : (text whole fraction : List ℕ) → whole ≡ (scanned text).whole → fraction ≡ fraction_of (scanned text).point → length whole + length fraction ≡ 0 → (d : Decimal) → Begins text d → ⊥
scanned_none text whole fraction whole_is fraction_is none d given =
    let some : 0 < length (digits_of (scanned text)) = scanned_some text d given in
    let parts = length-append (scanned text).whole (fraction_of (scanned text).point) in
    let one = ap length whole_is in
    let two = ap length fraction_is in
    omega arith

-- and where it has one, it is the longest
pub scanned_found : (text whole fraction : List ℕ) → whole ≡ (scanned text).whole → fraction ≡ fraction_of (scanned text).point → (length whole + length fraction ≡ 0 → ⊥) → IsLongest text (scanned text)
scanned_found text whole fraction whole_is fraction_is some =
    let parts = length-append (scanned text).whole (fraction_of (scanned text).point) in
    let one = ap length whole_is in
    let two = ap length fraction_is in
    scanned_longest text (omega arith)
