-- A text has one longest number at its front, and it comes to one value.
use Rattle.std.proofs.Common.{◌≡◌, ℕ, suc, ◌+◌, ◌*◌, ◌≤◌, ℤ, pos, negsuc, ◌+ℤ◌, ◌*ℤ◌, ◌≤ℤ◌, ◌<ℤ◌, Option, Some, None, List, length, Result, Ok, Err, refl, sym, ap, ◌∙◌, subst, arith}
use Rattle.std.proofs.Math.Nat.{mul-le-mul_right}
use Rattle.std.proofs.lemmas.Int.{ints, by_lt_z}
use Rattle.std.proofs.lemmas.List.{append-nil, length-append, nil_from_length}
use Rattle.text_scan.specs.Digits.{front, behind}
use Rattle.text_scan.specs.Decimals.{Sign, Decimal, spelling, sign_bytes, point_bytes, IsLongest, IsRounded, ComesTo, scaled, scale_of}
use Rattle.text_scan.specs.Cursors.{Place, left, IsSmall, IsDecimalAnswer}
use Rattle.text_scan.specs.Scans.{point_of, scanned}
use Rattle.text_scan.specs.declared.decimals.Round.{Round}
use Rattle.text_scan.specs.declared.decimals.Round.TheVariants.{Up, Down}
use Rattle.text_scan.specs.declared.decimals.ScanFault.{ScanFault}
use Rattle.text_scan.specs.declared.decimals.ScanFault.TheVariants.{NotNumber, OutOfRange}
use Rattle.text_scan.proofs.ScanLemmas.{extended, scanned_of, scanned_some, scanned_begins}

no_point : (point : Option (List ℕ)) → length (point_bytes point) ≡ 0 → point ≡ None
no_point None none = refl
no_point (Some ds) none = absurd (omega arith)

-- where nothing stands behind a number that goes on with it, it is the number itself
extended_same : (sign : Sign) (whole : List ℕ) (point : Option (List ℕ)) (rest : List ℕ) →
    length (spelling (extended sign whole point rest)) ≤ length (spelling (record { sign = sign; whole = whole; point = point })) → extended sign whole point rest ≡ record { sign = sign; whole = whole; point = point }
extended_same sign whole None rest short =
    let h : length (sign_bytes sign) + (length whole + length (front rest) + length (point_bytes (point_of (behind rest)))) ≤ length (sign_bytes sign) + length whole = simp (length-append, append-nil) at short in
    let none = nil_from_length (front rest) (omega arith) in
    let bare = no_point (point_of (behind rest)) (omega arith) in
    rw (none, bare, append-nil whole) refl
extended_same sign whole (Some ds) rest short =
    let h : length (sign_bytes sign) + (length whole + suc (length ds + length (front rest))) ≤ length (sign_bytes sign) + (length whole + suc (length ds)) = simp length-append at short in
    let none = nil_from_length (front rest) (omega arith) in
    rw (none, append-nil ds) refl

-- the longest number is the one that is scanned
pub longest_is : (text : List ℕ) (d : Decimal) → IsLongest text d → d ≡ scanned text
longest_is text d given =
    let begins = given.begins in
    let other = scanned_begins text (scanned_some text d begins) in
    let same = scanned_of text d begins in
    let short : length (spelling (extended d.sign d.whole d.point begins.rest)) ≤ length (spelling d) = rw same at (given.longest (scanned text) other) in
    sym (same ∙ extended_same d.sign d.whole d.point begins.rest short)

times_less : (r s : ℤ) (size : ℕ) → r <ℤ s → (r *ℤ pos size +ℤ pos size) ≤ℤ (s *ℤ pos size)
times_less (pos a) (pos b) size less = (let h : suc a * size ≤ b * size = mul-le-mul_right size (omega (arith, ints)) in omega (arith, ints))
times_less (pos a) (negsuc b) size less = absurd (omega (arith, ints))
times_less (negsuc a) (pos b) size less = (let h : 1 * size ≤ suc a * size = mul-le-mul_right size (omega arith) in omega (arith, ints))
times_less (negsuc a) (negsuc b) size less = (let h : suc (suc b) * size ≤ suc a * size = mul-le-mul_right size (omega (arith, ints)) in omega (arith, ints))

-- a number is rounded to one whole number
pub rounded_once : (round : Round) (n : ℤ) (size : ℕ) (r s : ℤ) → IsRounded round n size r → IsRounded round n size s → r ≡ s
rounded_once Up n size r s first second =
    by_lt_z r s (λ less. absurd (omega (arith, ints, times_less r s size less))) (λ more. by_lt_z s r (λ less. absurd (omega (arith, ints, times_less s r size less))) (λ also. omega (arith, ints)))
rounded_once Down n size r s first second =
    by_lt_z r s (λ less. absurd (omega (arith, ints, times_less r s size less))) (λ more. by_lt_z s r (λ less. absurd (omega (arith, ints, times_less s r size less))) (λ also. omega (arith, ints)))

-- a text has one longest number, and it comes to one value
one_amount : (text : List ℕ) (unit : ℕ) (round : Round) (d e : Decimal) (r s : ℤ) → IsLongest text d → IsLongest text e → ComesTo unit round d r → ComesTo unit round e s → (d ≡ e) × (r ≡ s)
one_amount text unit round d e r s first second comes also =
    let same = longest_is text d first ∙ sym (longest_is text e second) in
    let P : Decimal → Type 0 = λ x. ComesTo unit round x r in
    (same, rounded_once round (scaled unit e) (scale_of e) r s (subst P same comes) also)

-- one place has one answer, and the cursor one place after it
pub one_answer : (old new other : Place) (unit : ℕ) (round : Round) (r s : Result ℤ ScanFault) → IsDecimalAnswer old new unit round r → IsDecimalAnswer old other unit round s → (r ≡ s) × (new ≡ other)
one_answer old new other unit round (Ok r) (Ok s) first second =
    let same = one_amount (left old) unit round first.0 second.0 r s first.1.0 second.1.0 first.1.1 second.1.1 in
    (ap (λ v. Ok v) same.1, first.1.3 ∙ ap (λ x. record { text = old.text; at = old.at + length (spelling x) }) same.0 ∙ sym second.1.3)
one_answer old new other unit round (Ok r) (Err NotNumber) first second = absurd (second.0 first.0 first.1.0.begins)
one_answer old new other unit round (Ok r) (Err OutOfRange) first second =
    let same = (one_amount (left old) unit round first.0 second.0.0 r second.0.1.0 first.1.0 second.0.1.1.0 first.1.1 second.0.1.1.1).1 in
    absurd (second.0.1.1.2 (subst IsSmall same first.1.2))
one_answer old new other unit round (Err NotNumber) (Ok s) first second = absurd (first.0 second.0 second.1.0.begins)
one_answer old new other unit round (Err NotNumber) (Err NotNumber) first second = (refl, first.1 ∙ sym second.1)
one_answer old new other unit round (Err NotNumber) (Err OutOfRange) first second = absurd (first.0 second.0.0 second.0.1.1.0.begins)
one_answer old new other unit round (Err OutOfRange) (Ok s) first second =
    let same = (one_amount (left old) unit round second.0 first.0.0 s first.0.1.0 second.1.0 first.0.1.1.0 second.1.1 first.0.1.1.1).1 in
    absurd (first.0.1.1.2 (subst IsSmall same second.1.2))
one_answer old new other unit round (Err OutOfRange) (Err NotNumber) first second = absurd (second.0 first.0.0 first.0.1.1.0.begins)
one_answer old new other unit round (Err OutOfRange) (Err OutOfRange) first second = (refl, first.1 ∙ sym second.1)
