-- Numbers of values: decimals, in whole ps.
use Rattle.std.specs.Prelude.{ℕ, suc, negsuc, ◌+◌, ◌-◌, ◌*◌, ◌/◌, ◌&&◌, nat_lt, ℤ, pos, ◌-ℤ◌, Bool, true, false, List, [], ◌∷◌, length, Option, Some, None, if◌then◌else◌}
use Rattle.text_scan.specs.Left.{Left, ◌>>=◌, breached}
use Rattle.text_scan.specs.Digits.{value_of}
use Rattle.text_scan.specs.Decimals.{is_negative, digits_of, scale_of}
use Rattle.text_scan.specs.Scans.{scanned, behind_sign, behind_point}
use Rattle.text_scan.specs.Digits.{behind}
use Rattle.sdf_lex.specs.Tokens.{Token}
use Rattle.sdf_reader.specs.Marks.{word}

abbrev pub is_nil : List ℕ → Bool
is_nil [] = true
is_nil (_ ∷ _) = false

-- the word is a number: an optional sign, digits and an optional fraction, with a digit, and nothing behind them
abbrev pub is_number : List ℕ → Bool
is_number bytes = is_nil (behind_point (behind (behind_sign bytes))) && nat_lt 0 (length (digits_of (scanned bytes)))

-- n over the scale, rounded up: to the least whole number that is at least as much
abbrev pub rounded_up : Bool → ℕ → ℕ → ℤ
rounded_up negative n scale = if negative then pos 0 -ℤ pos (n / scale) else pos ((n + (scale - 1)) / scale)

-- the number that the word spells, times the unit, rounded up
abbrev pub amount : ℕ → List ℕ → ℤ
amount unit bytes = rounded_up (is_negative (scanned bytes).sign) (unit * value_of (digits_of (scanned bytes))) (scale_of (scanned bytes))

-- how far from 0
abbrev pub size : ℤ → ℕ
size (pos n) = n
size (negsuc n) = suc n

-- None where it passes 10^9 either way
abbrev pub in_range : ℤ → Option ℤ
in_range z = if nat_lt 1000000000 (size z) then None else Some z

-- a number out of its range is a breach at its offset, and 0 stands for it
abbrev pub counted : ℕ → Option ℤ → Left Token → ℤ × Left Token
counted at None left = (pos 0, breached at left)
counted at (Some z) left = (z, left)

-- a number, in ps
unfoldable pub number : ℕ → Left Token → Option (ℤ × Left Token)
number unit left = do
  (token, left) ← word left
  if is_number token.bytes then Some (counted token.at (in_range (amount unit token.bytes)) left) else None
