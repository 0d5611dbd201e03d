-- Numbers, and what they come to.
use Rattle.std.proofs.Common.{◌≡◌, ℕ, zero, suc, ◌+◌, ◌-◌, ◌*◌, ◌/◌, ◌^◌, ◌≤◌, ℤ, pos, negsuc, nat_lt, Bool, true, false, Some, None, List, length, Ok, Err, refl, sym, ap, ◌∙◌, subst, arith}
use Rattle.std.proofs.Math.Nat.{div-add-mod, pow-suc}
use Rattle.std.proofs.lemmas.Bool.{and_parts, ltb-true, ltb-false}
use Rattle.std.proofs.lemmas.Int.{ints}
use Rattle.text_scan.specs.Digits.{value_of}
use Rattle.text_scan.specs.Decimals.{Decimal, IsLongest, IsRounded, ComesTo, is_negative, signed, scaled, scale_of, digits_of, fraction_of}
use Rattle.text_scan.specs.Cursors.{Place, IsSmall, IsDecimalAnswer}
use Rattle.text_scan.specs.Scans.{IsQuotient, scanned, behind_sign, behind_point}
use Rattle.text_scan.specs.Digits.{behind}
use Rattle.text_scan.specs.declared.decimals.Round.TheVariants.{Up}
use Rattle.text_scan.specs.declared.decimals.ScanFault.TheVariants.{NotNumber, OutOfRange}
use Rattle.text_scan.proofs.AmountLemmas.{rounded_by_sign}
use Rattle.text_scan.proofs.DecimalLaws.{longest_is, rounded_once}
use Rattle.text_scan.proofs.ScanLemmas.{scanned_begins}
use Rattle.text_scan.proofs.Binds.{by_test}
use Rattle.sdf_reader.specs.Numbers.{is_nil, is_number, rounded_up, amount, size, in_range}

pub ten_some : (k : ℕ) → 1 ≤ 10 ^ k
ten_some zero = omega arith
ten_some (suc k) = rw pow-suc (let one = ten_some k in omega arith)

quotient_up : (n scale : ℕ) → 1 ≤ scale → IsQuotient true n scale ((n + (scale - 1)) / scale)
quotient_up n scale one =
    let sum = div-add-mod (n + (scale - 1)) scale in
    (omega arith, omega arith)

quotient_down : (n scale : ℕ) → 1 ≤ scale → IsQuotient false n scale (n / scale)
quotient_down n scale one =
    let sum = div-add-mod n scale in
    (omega arith, omega arith)

pub rounded_up_is : (negative : Bool) (n scale : ℕ) → 1 ≤ scale → IsRounded Up (signed negative n) scale (rounded_up negative n scale)
rounded_up_is true n scale one = rounded_by_sign Up true n scale (n / scale) (quotient_down n scale one)
rounded_up_is false n scale one = rounded_by_sign Up false n scale ((n + (scale - 1)) / scale) (quotient_up n scale one)

-- what the longest number of a word comes to
amount_is : (unit : ℕ) (word : List ℕ) (d : Decimal) (r : ℤ) → IsLongest word d → ComesTo unit Up d r → r ≡ amount unit word
amount_is unit word d r longest comes =
    let P : Decimal → Type 0 = λ x. ComesTo unit Up x r in
    let s = scanned word in
    rounded_once Up (scaled unit s) (scale_of s) r (amount unit word) (subst P (longest_is word d longest) comes)
    (rounded_up_is (is_negative s.sign) (unit * value_of (digits_of s)) (scale_of s) (ten_some (length (fraction_of s.point))))

small_size : (z : ℤ) → IsSmall z → size z ≤ 1000000000
small_size (pos n) small = omega (arith, ints, small.high)
small_size (negsuc n) small = omega (arith, ints, small.low)

size_small : (z : ℤ) → size z ≤ 1000000000 → IsSmall z
size_small (pos n) low = record { low = omega (arith, ints); high = omega (arith, ints) }
size_small (negsuc n) low = record { low = omega (arith, ints); high = omega (arith, ints) }

in_range_small : (z : ℤ) → IsSmall z → in_range z ≡ Some z
in_range_small z small = by_test (nat_lt 1000000000 (size z))
    (λ past. absurd (let low = small_size z small in let high = ltb-true 1000000000 (size z) past in omega arith))
    (λ low. rw low refl)

in_range_large : (z : ℤ) → (IsSmall z → ⊥) → in_range z ≡ None
in_range_large z large = by_test (nat_lt 1000000000 (size z))
    (λ past. rw past refl)
    (λ low. absurd (large (size_small z (ltb-false 1000000000 (size z) low))))

pub amount_found : (unit : ℕ) (word : List ℕ) (old new : Place) (r s : ℤ) → old ≡ record { text = word; at = 0 } → IsDecimalAnswer old new unit Up (Ok r) → s ≡ r → Some s ≡ in_range (amount unit word)
amount_found unit word old new r s is answer same =
    let P : Place → Type 0 = λ place. IsDecimalAnswer place new unit Up (Ok r) in
    let here = subst P is answer in
    let value = amount_is unit word here.0 r here.1.0 here.1.1 in
    ap (λ z. Some z) (same ∙ value) ∙ sym (in_range_small (amount unit word) (subst IsSmall value here.1.2))

pub amount_past : (unit : ℕ) (word : List ℕ) (old new : Place) → old ≡ record { text = word; at = 0 } → IsDecimalAnswer old new unit Up (Err OutOfRange) → None ≡ in_range (amount unit word)
amount_past unit word old new is answer =
    let P : Place → Type 0 = λ place. IsDecimalAnswer place new unit Up (Err OutOfRange) in
    let here = subst P is answer in
    let value = amount_is unit word here.0.0 here.0.1.0 here.0.1.1.0 here.0.1.1.1 in
    sym (in_range_large (amount unit word) (λ small. here.0.1.1.2 (subst IsSmall (sym value) small)))

pub amount_missing : {P : Type 0} (unit : ℕ) (word : List ℕ) (old new : Place) → old ≡ record { text = word; at = 0 } → is_number word ≡ true → IsDecimalAnswer old new unit Up (Err NotNumber) → P
amount_missing unit word old new is number answer =
    let Q : Place → Type 0 = λ place. IsDecimalAnswer place new unit Up (Err NotNumber) in
    let here = subst Q is answer in
    let parts = and_parts (is_nil (behind_point (behind (behind_sign word)))) (nat_lt 0 (length (digits_of (scanned word)))) number in
    absurd (here.0 (scanned word) (scanned_begins word (ltb-true 0 (length (digits_of (scanned word))) parts.1)))
