-- The kinds of lines of a script: what stands in each.
use Rattle.std.specs.Prelude.{◌≡◌, ℕ, ◌+◌, ◌-◌, ◌||◌, Bool, true, ℤ, pos, List, ◌∷◌, drop, length, Option, Some, None, Ok, Err, codes, if◌then◌else◌}
use Rattle.std.specs.Str.{bytes_eq}
use Rattle.text_scan.specs.Left.{Left, ◌>>=◌, next, end_of}
use Rattle.line_text.specs.Parts.{Part, fields}
use Rattle.line_text.specs.Numbers.{whole, count, word}
use Rattle.line_text.specs.Names.{name}
use Rattle.line_text.specs.Lines.{Production}
use Rattle.policy_reader.specs.Lines.{policy_line, version_of}
use Rattle.sdc_reader.specs.Files.{HasCommand}
use Rattle.sdc_reader.specs.declared.faults.SdcFault.TheVariants.{Value}
use Rattle.bud_design.specs.declared.policies.Edit.TheVariants as edit
use Rattle.bud_syntax.specs.declared.constraints.SdcCommand.{SdcCommand}
use Rattle.edit_reader.specs.Numbered.{Line}
use Rattle.edit_reader.specs.declared.lines.Kind.{Kind}
use Rattle.edit_reader.specs.declared.lines.Kind.TheVariants as kind
use Rattle.edit_reader.specs.declared.scripts.ScriptLine.{ScriptLine}
use Rattle.edit_reader.specs.declared.scripts.ScriptLine.TheVariants as script

-- edits 1, or edits 2: the version
unfoldable pub header : List Part → Option ℕ
header row = do
  line ← word (codes "edits") (row, None)
  (field, line) ← next line
  version ← version_of field.bytes
  breach ← end_of line
  Some version

-- plan
unfoldable pub plan : ℕ → Production ScriptLine
plan number line = do
  breach ← end_of line
  Some (script.Plan number, breach)

-- a delay at the end of a line, from 0 to 10^9 ps
unfoldable pub amount : Production ℤ
amount line = do
  (amount, line) ← whole (pos 0) (pos 1000000000) line
  breach ← end_of line
  Some (amount, breach)

-- delay FROM TO D
unfoldable pub delay : ℕ → Production ScriptLine
delay number line = do
  (from, line) ← name line
  (to, line) ← name line
  (amount, breach) ← amount line
  Some (script.Change number (edit.Delay from to amount), breach)

-- the number of a command at the end of a line, from 1 to 2^32 - 1
unfoldable pub command_number : Production ℕ
command_number line = do
  (command, line) ← count 1 4294967295 line
  breach ← end_of line
  Some (command, breach)

-- drop N
unfoldable pub dropped : ℕ → Production ScriptLine
dropped number line = do
  (command, breach) ← command_number line
  Some (script.Change number (edit.Drop command), breach)

-- a line `default`, `inst` or `arc` of a policy of this version
unfoldable pub appended : ℕ → ℕ → Production ScriptLine
appended version number row = do
  (line, breach) ← policy_line version row
  Some (script.Change number (edit.Line line), breach)

-- the word begins a line of a policy that a script may have
abbrev pub is_policy_word : List ℕ → Bool
is_policy_word bytes = bytes_eq bytes (codes "default") || (bytes_eq bytes (codes "inst") || bytes_eq bytes (codes "arc"))

-- the kind of line that a first word begins, unless it is `add`
abbrev pub kind_of : List ℕ → Option Kind
kind_of bytes =
    if bytes_eq bytes (codes "plan") then Some kind.Plan
    else (if bytes_eq bytes (codes "delay") then Some kind.Delay
    else (if bytes_eq bytes (codes "drop") then Some kind.Drop
    else (if is_policy_word bytes then Some kind.Policy else None)))

-- a row, and what stands behind its first word
abbrev pub line_by : ℕ → ℕ → Kind → Left Part → Production ScriptLine
line_by version number kind.Plan row line = plan number line
line_by version number kind.Delay row line = delay number line
line_by version number kind.Drop row line = dropped number line
line_by version number kind.Policy row line = appended version number row

-- a line of a script of this version that is no `add`, with its number
unfoldable pub plain_line : ℕ → ℕ → Production ScriptLine
plain_line version number row = do
  (field, line) ← next row
  kind ← kind_of field.bytes
  line_by version number kind row line

-- what stands in a line behind a field of it
abbrev pub behind : Part → Part → Part
behind line field = record { at = field.at + length field.bytes; bytes = drop ((field.at + length field.bytes) - line.at) line.bytes }

-- the line is `add`, with this text behind the word
pub record IsAdd (line : Part) (text : Part) : Type 0 where
  pub field : Part
  pub others : List Part
  pub in_order : fields line ≡ field ∷ others
  pub add : bytes_eq field.bytes (codes "add") ≡ true
  pub behind_is : text ≡ behind line field

-- What a line says in a script of this version, and the least offset of a number in it that is out of its range. Behind
-- `add` stands one timing command, with times in nanoseconds. A command that is refused for a number says nothing; the
-- number is out of its range at its offset in the script.
pub data IsLine (version : ℕ) (line : Line) : Option ScriptLine → Option ℕ → Type 0 where
  plain : (x : ScriptLine) (breach : Option ℕ) → plain_line version line.number (fields line.part, None) ≡ Some (x, breach) → IsLine version line (Some x) breach
  add : (text : Part) (command : SdcCommand) → IsAdd line.part text → HasCommand text.bytes (Ok command) → IsLine version line (Some (script.Change line.number (edit.Add command))) None
  out_of_range : (text : Part) (at : ℕ) → IsAdd line.part text → HasCommand text.bytes (Err (Value at)) → IsLine version line None (Some (text.at + at))
