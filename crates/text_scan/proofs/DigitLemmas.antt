-- Digits that are read one by one, up to a bound.
use Rattle.std.proofs.Common.{◌≡◌, ℕ, suc, ◌+◌, ◌-◌, ◌*◌, ◌^◌, ◌/◌, ◌%◌, ◌<◌, ◌≤◌, ◌||◌, not, nat_lt, nat_eq, zero, get_or, min, Bool, true, false, List, [], ◌∷◌, length, refl, sym, ap, ◌∙◌, arith, inl, inr}
use Rattle.std.proofs.Math.Nat.{mul-le-mul_left, mul-le-mul_right, pow-suc, one-le-pow}
use Rattle.std.proofs.lemmas.Bool.{cases_lt, and_parts, lt-ltb}
use Rattle.std.proofs.Math.Dec.{eqb-suc-zero}
use Rattle.std.specs.Char.{is_ascii_digit}
use Rattle.std.specs.Str.{all_ascii_digits}
use Rattle.std.proofs.lemmas.Bool.Decides.{nat_tests}
use Rattle.text_scan.specs.Scans.{HasParts}
use Rattle.text_scan.specs.Digits.{value_of}

-- what is read so far may be cut to the bound before the rest is read
capped : (bound n p w : ℕ) → 1 ≤ p → min (n * p + w) bound ≡ min (min n bound * p + w) bound
capped bound n p w one = elim (cases_lt bound n) [
  | inl past ↦
      let low : bound * 1 ≤ bound * p = mul-le-mul_left bound one in
      let more : bound * p ≤ n * p = mul-le-mul_right p (omega arith) in
      let cut : min n bound ≡ bound = omega arith in
      rw cut (omega arith)
  | inr below ↦
      let same : min n bound ≡ n = omega arith in
      rw same refl
]

-- digits have been read as v, up to the bound, and these digits follow
abbrev pub read_on : ℕ → ℕ → List ℕ → ℕ
read_on bound v digits = min (v * 10 ^ length digits + value_of digits) bound

-- one digit more
pub read_on_step : (bound v next digit : ℕ) (digits : List ℕ) → next ≡ min (v * 10 + (digit - 48)) bound → read_on bound v (digit ∷ digits) ≡ read_on bound next digits
read_on_step bound v next digit digits is =
    let whole : v * 10 ^ suc (length digits) + ((digit - 48) * 10 ^ length digits + value_of digits) ≡ (v * 10 + (digit - 48)) * 10 ^ length digits + value_of digits = rw pow-suc (omega arith) in
    rw (is, whole) (capped bound (v * 10 + (digit - 48)) (10 ^ length digits) (value_of digits) (one-le-pow (length digits) 10 (omega arith)))

-- behind a digit the rest decides whether all are digits
pub digits_behind : (digit : ℕ) (digits : List ℕ) (all : Bool) → is_ascii_digit digit ≡ true → all_ascii_digits (digit ∷ digits) ≡ all → all_ascii_digits digits ≡ all
digits_behind digit digits all one h = rw one at h

digit_range : (d : ℕ) → is_ascii_digit d ≡ true → (48 ≤ d) × (d ≤ 57)
digit_range d digit = grind (arith, nat_tests)

-- each of some digits is one
pub digit_in : (digits : List ℕ) (i : ℕ) → all_ascii_digits digits ≡ true → i < length digits → (48 ≤ get_or digits i 0) × (get_or digits i 0 ≤ 57)
digit_in [] i all within = absurd (omega arith)
digit_in (d ∷ ds) zero all within = digit_range d (and_parts (is_ascii_digit d) (all_ascii_digits ds) all).0
digit_in (d ∷ ds) (suc i) all within = digit_in ds i (and_parts (is_ascii_digit d) (all_ascii_digits ds) all).1 (omega arith)

or_false : (b : Bool) → (b || false) ≡ b
or_false true = refl
or_false false = refl

or_true : (b : Bool) → (b || true) ≡ true
or_true true = refl
or_true false = refl

-- the part of two numbers that is below a size is told apart from 0
told_more : (left digit size : ℕ) (inexact : Bool) → 1 ≤ size → inexact ≡ nat_lt 0 left → (inexact || not (nat_eq digit 0)) ≡ nat_lt 0 (digit * size + left)
told_more left zero size inexact one told = (let same : left ≡ 0 * size + left = omega arith in or_false inexact ∙ told ∙ ap (λ n. nat_lt 0 n) same)
told_more left (suc d) size inexact one told =
    let more : 1 * size ≤ suc d * size = mul-le-mul_right size (omega arith) in
    rw eqb-suc-zero (or_true inexact ∙ sym (lt-ltb 0 (suc d * size + left) (omega arith)))

-- one digit more before a fraction
pub parts_more : (unit digit sum parts k v : ℕ) (inexact : Bool) → HasParts (unit * v) (10 ^ k) parts inexact → sum ≡ unit * digit + parts →
    HasParts (unit * (digit * 10 ^ k + v)) (10 ^ suc k) (sum / 10) (inexact || not (nat_eq (sum % 10) 0))
parts_more unit digit sum parts k v inexact given is =
    let p = 10 ^ k in
    let whole : unit * (digit * p + v) ≡ sum * p + given.left = rw is (omega (arith, given.sum)) in
    let split : sum ≡ 10 * (sum / 10) + sum % 10 = omega arith in
    let spread : sum * p ≡ (10 * (sum / 10) + sum % 10) * p = ap (λ s. s * p) split in
    let below : (sum % 10) * p ≤ 9 * p = mul-le-mul_right p (omega arith) in
    record {
      left = (sum % 10) * p + given.left;
      sum = rw pow-suc (omega (arith, whole, spread));
      small = rw pow-suc (omega (arith, below, given.small));
      told = told_more given.left (sum % 10) p inexact (one-le-pow k 10 (omega arith)) given.told;
    }

-- a fraction's amount is less than the unit
pub parts_low : (unit digit sum parts : ℕ) → digit ≤ 9 → parts < unit → sum ≡ unit * digit + parts → sum / 10 < unit
parts_low unit digit sum parts small low is =
    let most : unit * digit ≤ unit * 9 = mul-le-mul_left unit small in
    omega arith
