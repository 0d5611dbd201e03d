-- Delay files: what is in the grammar, with which value.
use Rattle.std.specs.Prelude.{◌≡◌, ℕ, codes, List, [], Option, Some, None}
use Rattle.text_scan.specs.Left.{Left, ◌>>=◌, end_of}
use Rattle.bud_syntax.specs.declared.delays.SdfFile.{SdfFile}
use Rattle.sdf_lex.specs.Tokens.{Token, tokens_of}
use Rattle.sdf_reader.specs.Marks.{opened, closing}
use Rattle.sdf_reader.specs.Cells.{Scope, many, cell}
use Rattle.sdf_reader.specs.Headers.{Set, Heads, headers}
use Rattle.sdf_reader.specs.LeftOut.{first_left_out}

-- of no cell
abbrev pub scope_in : Set → Scope
scope_in set = record { divider = set.0; unit = set.1; cell = []; instance = [] }

-- "(" DELAYFILE {header}
unfoldable pub front : Left Token → Option Heads
front left = do
  left ← opened (codes "DELAYFILE") left
  headers ((46, 1000), left)

-- "(" DELAYFILE {header} {cell} ")", and nothing behind it; the least breach of all
unfoldable pub file : Left Token → Option (SdfFile × Option ℕ)
file left = do
  (set, left) ← front left
  (rows, left) ← many (cell (scope_in set)) ([], left)
  left ← closing left
  breach ← end_of left
  Some (record { rows = rows }, breach)

-- the text is a delay file in the loose form, in which numbers may be of any size
abbrev pub IsFile : List ℕ → SdfFile → Option ℕ → Type 0
IsFile text value breach = file (tokens_of text, None) ≡ Some (value, breach)

-- the text reads as the value
abbrev pub Reads : List ℕ → SdfFile → Type 0
Reads text value = IsFile text value None

-- the text is in the loose form, and this is the least offset of a number out of its range
abbrev pub IsBreached : List ℕ → ℕ → Type 0
IsBreached text at = (value : SdfFile) × IsFile text value (Some at)

-- the text isn't in the loose form
abbrev pub IsMalformed : List ℕ → Type 0
IsMalformed text = (value : SdfFile) (breach : Option ℕ) → IsFile text value breach → ⊥

-- the first word left out that stands directly behind a "(", or `*` directly behind "(" and INSTANCE, is this one
abbrev pub IsLeftOut : List ℕ → List ℕ → ℕ → Type 0
IsLeftOut text word at = (token : Token) × ((first_left_out (tokens_of text) ≡ Some token) × (token.bytes ≡ word) × (token.at ≡ at))
