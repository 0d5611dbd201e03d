-- Times and counts.
use Rattle.std.specs.Prelude.{ℕ, ◌==◌, ◌||◌, ◌&&◌, ◌+◌, ◌-◌, ◌*◌, ◌/◌, ℤ, pos, negsuc, ◌-ℤ◌, nat_le, Bool, true, false, List, Option, Some, None, Ok, Err, count_by, if◌then◌else◌}
use Rattle.std.specs.List.{list_all, list_any}
use Rattle.std.specs.Char.{is_ascii_digit}
use Rattle.text_scan.specs.Digits.{value_of}
use Rattle.text_scan.specs.Decimals.{Decimal, digits_of, is_negative, signed, scale_of}
use Rattle.text_scan.specs.Scans.{behind_sign, scanned, is_away}
use Rattle.text_scan.specs.declared.decimals.Round.{Round}
use Rattle.line_text.specs.Numbers.{whole_of, is_within, unsigned}
use Rattle.sdc_reader.specs.declared.faults.SdcFault.TheVariants.{Syntax, Value}
use Rattle.sdc_reader.specs.Answers.{Answer}

abbrev pub is_point : ℕ → Bool
is_point b = b == 46

abbrev pub is_decimal_byte : ℕ → Bool
is_decimal_byte b = is_ascii_digit b || is_point b

-- a number: an optional sign, and digits with at most one point among them, at least one digit
abbrev pub is_decimal : List ℕ → Bool
is_decimal text =
    list_all is_decimal_byte (behind_sign text) && (list_any is_ascii_digit (behind_sign text) && nat_le (count_by is_point (behind_sign text)) 1)

-- n wholes over a scale, rounded away from 0 or towards it
abbrev pub quotient : Bool → ℕ → ℕ → ℕ
quotient true n scale = (n + (scale - 1)) / scale
quotient false n scale = n / scale

-- what a number comes to in a unit, rounded towards more or towards less
abbrev pub amount_of : ℕ → Round → Decimal → ℤ
amount_of unit round d = signed (is_negative d.sign) (quotient (is_away round (is_negative d.sign)) (unit * value_of (digits_of d)) (scale_of d))

abbrev pub amount_in : ℕ → Round → List ℕ → ℤ
amount_in unit round text = amount_of unit round (scanned text)

-- within 10^9 either way
abbrev pub is_small : ℤ → Bool
is_small n = is_within (pos 0 -ℤ pos 1000000000) (pos 1000000000) n

-- a number as a time in this unit, of a word at this offset
unfoldable pub time : ℕ → Round → ℕ → List ℕ → Answer ℤ
time unit round at text =
    if is_decimal text
    then (if is_small (amount_in unit round text) then Ok (amount_in unit round text) else Err (Value at))
    else Err (Syntax at)

abbrev pub counted : ℕ → Option ℤ → Answer ℕ
counted at None = Err (Syntax at)
counted at (Some n) = if is_within (pos 1) (pos 1000) n then Ok (unsigned n) else Err (Value at)

-- a count from 1 to 1,000: digits, and `-` before them is read
unfoldable pub count : ℕ → List ℕ → Answer ℕ
count at text = counted at (whole_of text)

-- half of it, rounded down
abbrev pub half : ℤ → ℤ
half (pos n) = pos (n / 2)
half (negsuc n) = negsuc (n / 2)
