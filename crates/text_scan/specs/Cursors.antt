-- A place in a text, and what reading a decimal there answers.
use Rattle.std.specs.Prelude.{◌≡◌, ℕ, ◌+◌, ℤ, pos, ◌-ℤ◌, ◌≤ℤ◌, List, drop, length, Result, Ok, Err}
use Rattle.text_scan.specs.Decimals.{Decimal, Begins, IsLongest, ComesTo, spelling}
use Rattle.text_scan.specs.declared.decimals.Round.{Round}
use Rattle.text_scan.specs.declared.decimals.ScanFault.{ScanFault}
use Rattle.text_scan.specs.declared.decimals.ScanFault.TheVariants.{NotNumber, OutOfRange}

pub record Place : Type 0 where
  pub text : List ℕ
  pub at : ℕ

-- what is left of the text
abbrev pub left : Place → List ℕ
left place = drop place.at place.text

-- within 10^9 either way
pub record IsSmall (r : ℤ) : Type 0 where
  pub low : (pos 0 -ℤ pos 1000000000) ≤ℤ r
  pub high : r ≤ℤ pos 1000000000

-- what each answer of `decimal` says of the text at the old place, and where the new place is
abbrev pub IsDecimalAnswer : Place → Place → ℕ → Round → Result ℤ ScanFault → Type 0
IsDecimalAnswer old new unit round (Ok r) =
    (d : Decimal) × (IsLongest (left old) d × ComesTo unit round d r × IsSmall r × (new ≡ record { text = old.text; at = old.at + length (spelling d) }))
IsDecimalAnswer old new unit round (Err NotNumber) =
    ((d : Decimal) → Begins (left old) d → ⊥) × (new ≡ old)
IsDecimalAnswer old new unit round (Err OutOfRange) =
    ((d : Decimal) × ((r : ℤ) × (IsLongest (left old) d × ComesTo unit round d r × (IsSmall r → ⊥)))) × (new ≡ old)
