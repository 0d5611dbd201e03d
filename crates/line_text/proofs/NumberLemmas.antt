-- Natural numbers that are read digit by digit.
use Rattle.std.proofs.Common.{◌≡◌, ℕ, ◌≤◌, ◌==◌, min, true, false, Some, List, [], ◌∷◌, length, ap, arith}
use Rattle.std.specs.Option.{option_map}
use Rattle.std.specs.Str.{all_ascii_digits}
use Rattle.text_scan.specs.Digits.{value_of}
use Rattle.text_scan.proofs.DigitLemmas.{read_on}
use Rattle.line_text.specs.Numbers.{natural_of}

-- all digits have been read
pub read_all : (bound v : ℕ) (digits : List ℕ) → (length digits == 0) ≡ false → all_ascii_digits digits ≡ true → v ≤ bound → read_on bound v [] ≡ min (value_of digits) bound → Some v ≡ option_map (λ n. min n bound) (natural_of digits)
read_all bound v [] empty are low read = cc
read_all bound v (digit ∷ digits) empty are low read =
    let same : v ≡ min (value_of (digit ∷ digits)) bound = omega arith in
    rw are (ap (λ n. Some n) same)
