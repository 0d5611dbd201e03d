-- Names, and rows of numbers.
use Rattle.std.specs.Prelude.{ℕ, Bool, List, [], ◌∷◌, Option, Some, None, nat_lt, if◌then◌else◌}
use Rattle.std.specs.List.{list_all}
use Rattle.text_scan.specs.Left.{Left, ◌>>=◌, next}
use Rattle.line_text.specs.Parts.{Part}
use Rattle.line_text.specs.Numbers.{count}

-- all bytes are below 128
abbrev pub is_name : List ℕ → Bool
is_name bytes = list_all (λ b. nat_lt b 128) bytes

-- a field that is a name
unfoldable pub name : Left Part → Option (List ℕ × Left Part)
name line = do
  (field, line) ← next line
  if is_name field.bytes then Some (field.bytes, line) else None

-- all the fields that are left, each a natural number of the range
unfoldable pub counts : ℕ → ℕ → List Part → Option ℕ → Option (List ℕ × Option ℕ)
counts least most [] breach = Some ([], breach)
counts least most (field ∷ fields) breach = do
  (n, line) ← count least most (field ∷ fields, breach)
  (ns, last) ← counts least most fields line.1
  Some (n ∷ ns, last)
