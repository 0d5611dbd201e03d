-- Whole numbers in fields, and productions that read a field.
use Rattle.std.specs.Prelude.{ℕ, ◌==◌, ◌&&◌, ℤ, pos, negsuc, ◌-ℤ◌, int_le, Bool, List, [], ◌∷◌, Option, Some, None, if◌then◌else◌}
use Rattle.std.specs.Option.{option_map}
use Rattle.std.specs.Str.{all_ascii_digits, bytes_eq}
use Rattle.text_scan.specs.Digits.{value_of}
use Rattle.text_scan.specs.Left.{Left, ◌>>=◌, next, breached}
use Rattle.line_text.specs.Parts.{Part}

-- at least one digit, and nothing else
abbrev pub natural_of : List ℕ → Option ℕ
natural_of [] = None
natural_of (b ∷ bs) = if all_ascii_digits (b ∷ bs) then Some (value_of (b ∷ bs)) else None

-- an optional `-`, and a natural number; it may be of any size
unfoldable pub whole_of : List ℕ → Option ℤ
whole_of [] = None
whole_of (b ∷ bs) = if b == 45 then option_map (λ n. pos 0 -ℤ pos n) (natural_of bs) else option_map pos (natural_of (b ∷ bs))

-- a number of at least 0
abbrev pub unsigned : ℤ → ℕ
unsigned (pos n) = n
unsigned (negsuc n) = 0

abbrev pub is_within : ℤ → ℤ → ℤ → Bool
is_within least most n = int_le least n && int_le n most

-- a field that spells a whole number; where the number is out of its range, this is a breach at the field, and the least of the range stands for it
unfoldable pub whole : ℤ → ℤ → Left Part → Option (ℤ × Left Part)
whole least most line = do
  (field, line) ← next line
  n ← whole_of field.bytes
  Some (if is_within least most n then (n, line) else (least, breached field.at line))

-- the same of a range of natural numbers
unfoldable pub count : ℕ → ℕ → Left Part → Option (ℕ × Left Part)
count least most line = do
  (n, line) ← whole (pos least) (pos most) line
  Some (unsigned n, line)

-- a field that is this word
unfoldable pub word : List ℕ → Left Part → Option (Left Part)
word expected line = do
  (field, line) ← next line
  if bytes_eq field.bytes expected then Some line else None
