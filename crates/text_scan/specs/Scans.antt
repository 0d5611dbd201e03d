-- How the longest number at the front of a text is found, and its amount in a unit.
use Rattle.std.specs.Prelude.{◌≡◌, ℕ, ◌+◌, ◌*◌, ◌<◌, ◌≤◌, ◌==◌, ◌||◌, ◌^◌, ◌++◌, not, nat_lt, ℤ, Bool, true, false, Option, Some, None, List, [], ◌∷◌, length, min, if◌then◌else◌, Result, Ok, Err}
use Rattle.text_scan.specs.Digits.{front, behind, value_of}
use Rattle.text_scan.specs.Decimals.{Sign, Decimal, spelling, IsLongest, Begins, ComesTo}
use Rattle.text_scan.specs.Decimals.Sign.{bare, plus, minus}
use Rattle.text_scan.specs.Cursors.{IsSmall}
use Rattle.text_scan.specs.declared.decimals.Round.{Round}
use Rattle.text_scan.specs.declared.decimals.Round.TheVariants.{Up, Down}
use Rattle.text_scan.specs.declared.decimals.ScanFault.{ScanFault}
use Rattle.text_scan.specs.declared.decimals.ScanFault.TheVariants.{NotNumber, OutOfRange}

abbrev pub sign_of : List ℕ → Sign
sign_of [] = bare
sign_of (b ∷ _) = if b == 43 then plus else (if b == 45 then minus else bare)

abbrev pub behind_sign : List ℕ → List ℕ
behind_sign [] = []
behind_sign (b ∷ bs) = if b == 43 || b == 45 then bs else b ∷ bs

abbrev pub point_of : List ℕ → Option (List ℕ)
point_of [] = None
point_of (b ∷ bs) = if b == 46 then Some (front bs) else None

abbrev pub behind_point : List ℕ → List ℕ
behind_point [] = []
behind_point (b ∷ bs) = if b == 46 then behind bs else b ∷ bs

-- the pieces at the front, each as long as it can be
unfoldable pub scanned : List ℕ → Decimal
scanned text = record { sign = sign_of text; whole = front (behind_sign text); point = point_of (behind (behind_sign text)) }

-- m wholes of this size, rounded away from 0 or towards it, are n
abbrev pub IsQuotient : Bool → ℕ → ℕ → ℕ → Type 0
IsQuotient true n size m = (n ≤ m * size) × (m * size < n + size)
IsQuotient false n size m = (m * size ≤ n) × (n < m * size + size)

-- n is this many wholes of this size, and `inexact` says whether anything is left
pub record HasParts (n size parts : ℕ) (inexact : Bool) : Type 0 where
  pub left : ℕ
  pub sum : n ≡ parts * size + left
  pub small : left < size
  pub told : inexact ≡ nat_lt 0 left

-- the amount in the unit of a number without its sign, up to 10^9 + 1
pub record HasAmount (unit : ℕ) (whole fraction : List ℕ) (away : Bool) (amount : ℕ) : Type 0 where
  pub exact : ℕ
  pub rounded : IsQuotient away (unit * value_of (whole ++ fraction)) (10 ^ length fraction) exact
  pub agrees : min amount 1000000001 ≡ min exact 1000000001

-- whether a number is rounded away from 0
abbrev pub is_away : Round → Bool → Bool
is_away Up negative = not negative
is_away Down negative = negative

-- what is answered of the number at the front of a text: its value and its length, or why there is none
abbrev pub IsFrontAnswer : List ℕ → ℕ → Round → Result (ℤ × ℕ) ScanFault → Type 0
IsFrontAnswer text unit round (Ok r) = (d : Decimal) × (IsLongest text d × ComesTo unit round d r.0 × IsSmall r.0 × (r.1 ≡ length (spelling d)))
IsFrontAnswer text unit round (Err NotNumber) = (d : Decimal) → Begins text d → ⊥
IsFrontAnswer text unit round (Err OutOfRange) = (d : Decimal) × ((r : ℤ) × (IsLongest text d × ComesTo unit round d r × (IsSmall r → ⊥)))
