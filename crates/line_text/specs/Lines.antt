-- Kinds of lines, and texts made of lines of one kind after another.
use Rattle.std.specs.Prelude.{◌≡◌, ℕ, Bool, false, List, [], ◌∷◌, Option, Some, if◌then◌else◌}
use Rattle.std.specs.Str.{bytes_eq}
use Rattle.text_scan.specs.Left.{Left, ◌>>=◌, next}
use Rattle.line_text.specs.Parts.{Part, Row}
use Rattle.line_text.specs.Numbers.{word}

-- what reads all the fields of a row: its value, and the least breach so far
abbrev pub Production : Type 0 → Type 0
Production X = Left Part → Option (X × Option ℕ)

-- rows of this word, which the production reads behind it
abbrev pub titled : {X : Type 0} → List ℕ → Production X → Production X
titled title production row = do
  row ← word title row
  production row

-- the next row is read by the production
unfoldable pub line : {X : Type 0} → Production X → Left Row → Option (X × Left Row)
line production text = do
  (row, text) ← next text
  (x, breach) ← production (row, text.1)
  Some (x, (text.0, breach))

-- the production reads each of the rows, with these values in order; the least breach before and after
pub data Each {X : Type 0} (production : Production X) : List Row → Option ℕ → List X → Option ℕ → Type 0 where
  none : (breach : Option ℕ) → Each production [] breach [] breach
  more : (row : Row) (rows : List Row) (x : X) (xs : List X) (a b c : Option ℕ) → production (row, a) ≡ Some (x, b) → Each production rows b xs c → Each production (row ∷ rows) a (x ∷ xs) c

-- the row's first field is this word
abbrev pub begins : List ℕ → Row → Bool
begins title [] = false
begins title (field ∷ _) = bytes_eq field.bytes title

-- how a section is read: the production reads rows as long as the next one begins with the title
unfoldable pub section : {X : Type 0} → List ℕ → Production X → List Row → Option ℕ → Option (List X × Left Row)
section title production [] breach = Some ([], ([], breach))
section title production (row ∷ rows) breach =
    if begins title row
    then (do
      (x, breach) ← titled title production (row, breach)
      (xs, text) ← section title production rows breach
      Some (x ∷ xs, text))
    else Some ([], (row ∷ rows, breach))
