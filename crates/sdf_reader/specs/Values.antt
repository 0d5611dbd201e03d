-- Values, in ps.
use Rattle.std.specs.Prelude.{int_lt, ℕ, zero, suc, ℤ, pos, codes, Option, Some, None, if◌then◌else◌}
use Rattle.text_scan.specs.Left.{Left, ◌>>=◌}
use Rattle.sdf_lex.specs.Tokens.{Token}
use Rattle.sdf_reader.specs.Marks.{is_word, is_mark, opens, next_is, opening, closing, colon}
use Rattle.sdf_reader.specs.Numbers.{number}

abbrev pub greater : ℤ → ℤ → ℤ
greater a b = if int_lt a b then b else a

-- what counts of a triple: its third part, or where that is missing the greatest that is there; 0 where there is none
abbrev pub triple_value : Option ℤ → Option ℤ → Option ℤ → ℤ
triple_value first second (Some c) = c
triple_value (Some a) (Some b) None = greater a b
triple_value (Some a) None None = a
triple_value None (Some b) None = b
triple_value None None None = pos 0

-- a number, if one stands next
unfoldable pub maybe_number : ℕ → Left Token → Option (Option ℤ × Left Token)
maybe_number unit left =
    if next_is (λ token. is_word token.kind) left
    then (do
      (n, left) ← number unit left
      Some (Some n, left))
    else Some (None, left)

-- the second and third part of a triple, behind its first
unfoldable pub triple : ℕ → Option ℤ → Left Token → Option (ℤ × Left Token)
triple unit first left = do
  left ← colon left
  (second, left) ← maybe_number unit left
  left ← colon left
  (third, left) ← maybe_number unit left
  Some (triple_value first second third, left)

-- what stands behind the first part
abbrev pub others : ℕ → Option ℤ → Left Token → Option (ℤ × Left Token)
others unit first left = if next_is (is_mark (codes ":")) left then triple unit first left else Some (triple_value None None first, left)

-- "(" ")", or "(" number ")", or "(" [number] ":" [number] ":" [number] ")"
unfoldable pub value : ℕ → Left Token → Option (ℤ × Left Token)
value unit left = do
  left ← opening left
  (first, left) ← maybe_number unit left
  (v, left) ← others unit first left
  left ← closing left
  Some (v, left)

-- another value behind those of which v is the greatest; the greatest of all
unfoldable pub another : ℕ → ℤ × Left Token → Option (ℤ × Left Token)
another unit (v, left) = do
  (w, left) ← value unit left
  Some (greater v w, left)

-- at most so many further values
unfoldable pub up_to : ℕ → ℕ → ℤ × Left Token → Option (ℤ × Left Token)
up_to zero unit found = Some found
up_to (suc further) unit found = if next_is opens found.1 then (another unit found >>= λ more. up_to further unit more) else Some found

-- 1 to 12 values; the greatest counts
unfoldable pub values : ℕ → Left Token → Option (ℤ × Left Token)
values unit left = do
  found ← value unit left
  up_to 11 unit found
