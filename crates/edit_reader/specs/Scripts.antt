-- Scripts of edits: what is in the grammar, with which value, and what a reader of them answers.
use Rattle.std.specs.Prelude.{◌≡◌, ℕ, List, [], ◌∷◌, Option, Some, None, Result, Ok, Err}
use Rattle.text_scan.specs.Left.{lesser}
use Rattle.line_text.specs.Parts.{fields}
use Rattle.bud_base.specs.declared.texts.TextFault.{TextFault}
use Rattle.bud_base.specs.declared.texts.TextFault.TheVariants.{Syntax, Value, NoMemory}
use Rattle.edit_reader.specs.Numbered.{Line, lines_of}
use Rattle.edit_reader.specs.Lines.{header as header_of, IsLine}
use Rattle.edit_reader.specs.declared.scripts.ScriptLine.{ScriptLine}

-- with the value of a line before them, if it has one
abbrev pub onto : Option ScriptLine → List ScriptLine → List ScriptLine
onto None xs = xs
onto (Some x) xs = x ∷ xs

-- lines of a script of this version, with their values in order, and the least offset of a number out of its range
pub data AreLines (version : ℕ) : List Line → List ScriptLine → Option ℕ → Type 0 where
  none : AreLines version [] [] None
  more : (line : Line) (lines : List Line) (x : Option ScriptLine) (xs : List ScriptLine) (a b : Option ℕ) → IsLine version line x a → AreLines version lines xs b →
      AreLines version (line ∷ lines) (onto x xs) (lesser a b)

-- The lines are a script in the loose form, in which numbers may be of any size: the line `edits 1` or `edits 2`, then
-- lines of edits and plans in any order. Where all numbers are in their ranges, `breach` is None and the value is the
-- script; else it is the least offset of a number that isn't, and in the value the least of the range stands for such a
-- number, and an added command with one is left out.
pub record IsScript (lines : List Line) (xs : List ScriptLine) (breach : Option ℕ) : Type 0 where
  pub header : Line
  pub others : List Line
  pub in_order : lines ≡ header ∷ others
  pub edits : ℕ
  pub is_header : header_of (fields header.part) ≡ Some edits
  pub are_lines : AreLines edits others xs breach

-- the text reads as the script
abbrev pub Reads : List ℕ → List ScriptLine → Type 0
Reads text script = IsScript (lines_of text) script None

-- the text is in the loose form, and this is the least offset of a number out of its range
abbrev pub IsBreached : List ℕ → ℕ → Type 0
IsBreached text at = (xs : List ScriptLine) × IsScript (lines_of text) xs (Some at)

-- the text isn't in the loose form
abbrev pub IsMalformed : List ℕ → Type 0
IsMalformed text = (xs : List ScriptLine) (breach : Option ℕ) → IsScript (lines_of text) xs breach → ⊥

-- what each answer of `read_edits` says of the text
abbrev pub IsReadAnswer : List ℕ → Result (List ScriptLine) TextFault → Type 0
IsReadAnswer text (Ok script) = Reads text script
IsReadAnswer text (Err (Value at)) = IsBreached text at
IsReadAnswer text (Err (Syntax at)) = IsMalformed text
IsReadAnswer text (Err NoMemory) = Unit {0}
