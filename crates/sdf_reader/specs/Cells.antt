-- The entries of cells, as rows. The rows that are read so far are carried along, as the least breach is.
use Rattle.std.specs.Prelude.{ℕ, codes, List, [], ◌∷◌, ◌++◌, length, Option, Some, None, if◌then◌else◌}
use Rattle.text_scan.specs.Left.{Left, ◌>>=◌}
use Rattle.bud_syntax.specs.declared.delays.SdfKind.{SdfKind}
use Rattle.bud_syntax.specs.declared.delays.SdfKind.TheVariants.{Cell}
use Rattle.bud_syntax.specs.declared.delays.SdfRow.{SdfRow}
use Rattle.sdf_lex.specs.Tokens.{Token}
use Rattle.sdf_reader.specs.Marks.{is_word, next_is, closing, opened, starts, string}
use Rattle.sdf_reader.specs.Names.{name}
use Rattle.sdf_reader.specs.Until.{until}
use Rattle.sdf_reader.specs.Nests.{no_list}
use Rattle.sdf_reader.specs.Entries.{delay}
use Rattle.sdf_reader.specs.Checks.{check}

-- what entries stand in: the divider of names, the unit of values in ps, the type of the cell, and the printed name of the
-- instance
pub record Scope : Type 0 where
  pub divider : ℕ
  pub unit : ℕ
  pub cell : List ℕ
  pub instance : List ℕ

-- the rows so far, and what is left
abbrev pub Rows : Type 0
Rows = List SdfRow × Left Token

abbrev pub row : Scope → SdfKind → SdfRow
row scope kind = record { cell = scope.cell; instance = scope.instance; kind = kind }

-- {x}: as long as a list begins next
unfoldable pub many : (Rows → Option Rows) → Rows → Option Rows
many step s = until (λ t. no_list t.1) step (length s.1.0) s

-- "(", a keyword, {x} and ")"
unfoldable pub listed : List ℕ → (Rows → Option Rows) → Rows → Option Rows
listed word step (rows, left) = do
  left ← opened word left
  (rows, left) ← many step (rows, left)
  left ← closing left
  Some (rows, left)

-- a delay
unfoldable pub delay_row : Scope → Rows → Option Rows
delay_row scope (rows, left) = do
  (kind, left) ← delay scope.divider scope.unit left
  Some (rows ++ row scope kind ∷ [], left)

-- with what a check says, where it has an effect
abbrev pub with_check : Scope → List SdfRow → Option SdfKind → List SdfRow
with_check scope rows None = rows
with_check scope rows (Some kind) = rows ++ row scope kind ∷ []

-- a check
unfoldable pub check_row : Scope → Rows → Option Rows
check_row scope (rows, left) = do
  (kind, left) ← check scope.divider scope.unit left
  Some (with_check scope rows kind, left)

-- "(" ABSOLUTE {delay} ")"
abbrev pub absolute : Scope → Rows → Option Rows
absolute scope s = listed (codes "ABSOLUTE") (delay_row scope) s

-- "(" DELAY {"(" ABSOLUTE {delay} ")"} ")" or "(" TIMINGCHECK {check} ")"
abbrev pub timing : Scope → Rows → Option Rows
timing scope s =
    if starts (codes "TIMINGCHECK") s.1
    then listed (codes "TIMINGCHECK") (check_row scope) s
    else listed (codes "DELAY") (absolute scope) s

-- the name of an instance, if one stands next; without one it is the top
unfoldable pub maybe_name : ℕ → Left Token → Option (List ℕ × Left Token)
maybe_name divider left = if next_is (λ token. is_word token.kind) left then name divider left else Some ([], left)

-- "(" CELLTYPE string ")"
unfoldable pub cell_type : Left Token → Option (List ℕ × Left Token)
cell_type left = do
  left ← opened (codes "CELLTYPE") left
  (type, left) ← string left
  left ← closing left
  Some (type, left)

-- "(" INSTANCE [name] ")"
unfoldable pub instance_of : ℕ → Left Token → Option (List ℕ × Left Token)
instance_of divider left = do
  left ← opened (codes "INSTANCE") left
  (name, left) ← maybe_name divider left
  left ← closing left
  Some (name, left)

-- "(" CELL "(" CELLTYPE string ")" "(" INSTANCE [name] ")"
unfoldable pub cell_head : ℕ → Left Token → Option ((List ℕ × List ℕ) × Left Token)
cell_head divider left = do
  left ← opened (codes "CELL") left
  (type, left) ← cell_type left
  (name, left) ← instance_of divider left
  Some ((type, name), left)

-- inside a cell
abbrev pub inside : Scope → List ℕ × List ℕ → Scope
inside outer head = record { divider = outer.divider; unit = outer.unit; cell = head.0; instance = head.1 }

-- a cell: its head, {timing} and ")"; a row Cell stands before its other rows
unfoldable pub cell : Scope → Rows → Option Rows
cell outer (rows, left) = do
  (head, left) ← cell_head outer.divider left
  (rows, left) ← many (timing (inside outer head)) (rows ++ row (inside outer head) Cell ∷ [], left)
  left ← closing left
  Some (rows, left)
