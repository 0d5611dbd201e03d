-- The amount of a number in a unit, and its rounding.
use Rattle.std.proofs.Common.{◌≡◌, ℕ, suc, zero, ◌+◌, ◌*◌, ◌^◌, ◌<◌, ◌≤◌, pos, negsuc, ◌-ℤ◌, ◌*ℤ◌, ◌&&◌, nat_lt, min, Bool, true, false, List, [], ◌∷◌, ◌++◌, length, refl, sym, ap, ◌∙◌, subst, arith, add_assoc, inl, inr}
use Rattle.std.proofs.Math.Nat.{mul-le-mul_left, mul-le-mul_right}
use Rattle.std.proofs.lemmas.Nat.{pow-add}
use Rattle.std.proofs.lemmas.List.{length-append}
use Rattle.std.proofs.lemmas.Bool.{cases_lt, ltb-true, ltb-false}
use Rattle.std.proofs.lemmas.Int.{ints}
use mir.Val.{bool_byte}
use Rattle.text_scan.specs.Digits.{value_of}
use Rattle.text_scan.specs.Decimals.{Decimal, is_negative, fraction_of, signed, IsRounded, ComesTo}
use Rattle.text_scan.specs.Scans.{IsQuotient, HasParts, HasAmount, is_away}
use Rattle.text_scan.specs.Cursors.{IsSmall}
use Rattle.text_scan.specs.declared.decimals.Round.{Round}
use Rattle.text_scan.specs.declared.decimals.Round.TheVariants.{Up, Down}

-- digits behind digits
pub value_of-append : (xs ys : List ℕ) → value_of (xs ++ ys) ≡ value_of xs * 10 ^ length ys + value_of ys
value_of-append [] ys = omega arith
value_of-append (x ∷ xs) ys = rw (length-append xs ys, pow-add 10 (length xs) (length ys), value_of-append xs ys) (omega arith)

abbrev pub count_of : Bool → ℕ
count_of true = 1
count_of false = 0

-- wholes and parts, and one more where they are rounded away from 0 and something is left
quotient_of : (n size quotient left : ℕ) (away inexact : Bool) → n ≡ quotient * size + left → left < size → inexact ≡ nat_lt 0 left → IsQuotient away n size (quotient + count_of (away && inexact))
quotient_of n size quotient left true true sum small told = (let some : 0 < left = ltb-true 0 left (sym told) in (omega arith, omega arith))
quotient_of n size quotient left true false sum small told = (let none : left ≤ 0 = ltb-false 0 left (sym told) in (omega arith, omega arith))
quotient_of n size quotient left false inexact sum small told = (omega arith, omega arith)

-- what is past the bound is past it also when it is cut before
cut_before_unit : (unit w more bound : ℕ) → 1 ≤ unit → min (unit * min w bound + more) bound ≡ min (unit * w + more) bound
cut_before_unit unit w more bound one = elim (cases_lt bound w) [
  | inl past ↦
      let cut : min w bound ≡ bound = omega arith in
      let low : 1 * bound ≤ unit * bound = mul-le-mul_right bound one in
      let high : unit * bound ≤ unit * w = mul-le-mul_left unit (omega arith) in
      rw cut (omega arith)
  | inr below ↦ (let same : min w bound ≡ w = omega arith in rw same refl)
]

pub amount_is : (unit wholes parts up : ℕ) (whole fraction : List ℕ) (away inexact : Bool) → 1 ≤ unit → wholes ≡ min (value_of whole) 1000000001 →
    HasParts (unit * value_of fraction) (10 ^ length fraction) parts inexact → up ≡ count_of (away && inexact) → HasAmount unit whole fraction away (unit * wholes + parts + up)
amount_is unit wholes parts up whole fraction away inexact one cut given is =
    let scale = 10 ^ length fraction in
    let n = unit * value_of (whole ++ fraction) in
    let quotient = unit * value_of whole + parts in
    let sum : n ≡ quotient * scale + given.left = rw (value_of-append whole fraction) (omega (arith, given.sum)) in
    record {
      exact = quotient + count_of (away && inexact);
      rounded = quotient_of n scale quotient given.left away inexact sum given.small given.told;
      agrees =
          rw (cut, is) (
          ap (λ m. min m 1000000001) (add_assoc (unit * min (value_of whole) 1000000001) parts (count_of (away && inexact)))
          ∙ cut_before_unit unit (value_of whole) (parts + count_of (away && inexact)) 1000000001 one
          ∙ ap (λ m. min m 1000000001) (sym (add_assoc (unit * value_of whole) parts (count_of (away && inexact)))));
    }

-- rounding away from 0 or towards it is rounding up or down, by the sign
neg_times : (m size : ℕ) → (pos 0 -ℤ pos m) *ℤ pos size ≡ pos 0 -ℤ pos (m * size)
neg_times zero size = (let none : 0 * size ≡ 0 = omega arith in rw none refl)
neg_times (suc k) size =
    let minus : pos 0 -ℤ pos (suc k) ≡ negsuc k = omega (arith, ints) in
    rw minus (omega (arith, ints))

pub rounded_by_sign : (round : Round) (negative : Bool) (n size m : ℕ) → IsQuotient (is_away round negative) n size m → IsRounded round (signed negative n) size (signed negative m)
rounded_by_sign Up true n size m given = rw neg_times (omega (arith, ints), omega (arith, ints))
rounded_by_sign Up false n size m given = (omega (arith, ints), omega (arith, ints))
rounded_by_sign Down true n size m given = rw neg_times (omega (arith, ints), omega (arith, ints))
rounded_by_sign Down false n size m given = (omega (arith, ints), omega (arith, ints))

pub small_signed : (negative : Bool) (m : ℕ) → m ≤ 1000000000 → IsSmall (signed negative m)
small_signed true m low = record { low = omega (arith, ints); high = omega (arith, ints) }
small_signed false m low = record { low = omega (arith, ints); high = omega (arith, ints) }

pub large_signed : (negative : Bool) (m : ℕ) → 1000000000 < m → IsSmall (signed negative m) → ⊥
large_signed true m high small = omega (arith, ints, small.low, small.high)
large_signed false m high small = omega (arith, ints, small.low, small.high)

-- what a number comes to, from its amount
pub comes_to : (unit : ℕ) (round : Round) (d : Decimal) (negative away : Bool) (whole fraction : List ℕ) (amount m : ℕ) →
    negative ≡ is_negative d.sign → whole ≡ d.whole → fraction ≡ fraction_of d.point → away ≡ is_away round negative →
    (given : HasAmount unit whole fraction away amount) → given.exact ≡ m → ComesTo unit round d (signed negative m)
comes_to unit round d negative away whole fraction amount m negative_is whole_is fraction_is away_is given is =
    let P : Bool → Type 0 = λ b. IsQuotient b (unit * value_of (whole ++ fraction)) (10 ^ length fraction) given.exact in
    rw (← negative_is, ← whole_is, ← fraction_is, ← is)
    (rounded_by_sign round negative (unit * value_of (whole ++ fraction)) (10 ^ length fraction) given.exact (subst P away_is given.rounded))

pub bool_byte_is : (b : Bool) → bool_byte b ≡ count_of b
bool_byte_is true = refl
bool_byte_is false = refl
