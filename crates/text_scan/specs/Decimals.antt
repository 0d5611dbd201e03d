-- Decimal numbers: their grammar, the longest at the front of a text, and rounding.
use Rattle.std.specs.Prelude.{◌≡◌, ℕ, ◌*◌, ◌^◌, ◌<◌, ◌≤◌, ℤ, pos, ◌+ℤ◌, ◌-ℤ◌, ◌*ℤ◌, ◌≤ℤ◌, ◌<ℤ◌, Bool, true, false, Option, Some, None, List, [], ◌∷◌, ◌++◌, length, if◌then◌else◌}
use Rattle.std.specs.Str.{all_ascii_digits}
use Rattle.text_scan.specs.Digits.{value_of}
use Rattle.text_scan.specs.declared.decimals.Round.{Round}
use Rattle.text_scan.specs.declared.decimals.Round.TheVariants.{Up, Down}

pub data Sign : Type 0 where
  bare : Sign
  plus : Sign
  minus : Sign

-- a number's pieces: a sign or none, the digits of its whole part, and its point, if it has one, with the digits behind that
pub record Decimal : Type 0 where
  pub sign : Sign
  pub whole : List ℕ
  pub point : Option (List ℕ)

abbrev pub sign_bytes : Sign → List ℕ
sign_bytes bare = []
sign_bytes plus = 43 ∷ []
sign_bytes minus = 45 ∷ []

abbrev pub point_bytes : Option (List ℕ) → List ℕ
point_bytes None = []
point_bytes (Some digits) = 46 ∷ digits

abbrev pub spelling : Decimal → List ℕ
spelling d = sign_bytes d.sign ++ (d.whole ++ point_bytes d.point)

-- the digits behind the point
abbrev pub fraction_of : Option (List ℕ) → List ℕ
fraction_of None = []
fraction_of (Some digits) = digits

abbrev pub digits_of : Decimal → List ℕ
digits_of d = d.whole ++ fraction_of d.point

-- the number stands at the front of the text, and has a digit
pub record Begins (text : List ℕ) (d : Decimal) : Type 0 where
  pub rest : List ℕ
  pub spelled : text ≡ spelling d ++ rest
  pub digits : all_ascii_digits (digits_of d) ≡ true
  pub some : 0 < length (digits_of d)

-- no number at the front of the text is longer
pub record IsLongest (text : List ℕ) (d : Decimal) : Type 0 where
  pub begins : Begins text d
  pub longest : (other : Decimal) → Begins text other → length (spelling other) ≤ length (spelling d)

abbrev pub is_negative : Sign → Bool
is_negative bare = false
is_negative plus = false
is_negative minus = true

abbrev pub signed : Bool → ℕ → ℤ
signed negative n = if negative then pos 0 -ℤ pos n else pos n

-- the number times a unit is n over this power of ten
abbrev pub scale_of : Decimal → ℕ
scale_of d = 10 ^ length (fraction_of d.point)

abbrev pub scaled : ℕ → Decimal → ℤ
scaled unit d = signed (is_negative d.sign) (unit * value_of (digits_of d))

-- r is n over the scale, rounded: up is towards more, down towards less
abbrev pub IsRounded : Round → ℤ → ℕ → ℤ → Type 0
IsRounded Up n scale r = (n ≤ℤ (r *ℤ pos scale)) × ((r *ℤ pos scale) <ℤ (n +ℤ pos scale))
IsRounded Down n scale r = ((r *ℤ pos scale) ≤ℤ n) × (n <ℤ (r *ℤ pos scale +ℤ pos scale))

-- what the number comes to in this unit
abbrev pub ComesTo : ℕ → Round → Decimal → ℤ → Type 0
ComesTo unit round d r = IsRounded round (scaled unit d) (scale_of d) r
