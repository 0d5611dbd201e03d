-- What the parts of the reader answer.
use Rattle.std.specs.Prelude.{◌≡◌, ℕ, ◌≤◌, ◌+◌, List, ◌++◌, Option, Result, Ok, Err}
use Rattle.text_scan.specs.Left.{lesser}
use Rattle.line_text.specs.Parts.{Part}
use Rattle.bud_base.specs.declared.texts.TextFault.{TextFault}
use Rattle.bud_base.specs.declared.texts.TextFault.TheVariants.{Syntax, Value, NoMemory}
use Rattle.bud_syntax.specs.declared.constraints.SdcCommand.{SdcCommand}
use Rattle.sdc_reader.specs.Files.{HasCommand}
use Rattle.sdc_reader.specs.declared.faults.SdcFault.{SdcFault}
use Rattle.sdc_reader.specs.declared.faults.SdcFault.TheVariants.{Syntax as SyntaxOf, UnknownCommand, UnknownOption, Value as ValueOf, NoMemory as NoMemoryOf}
use Rattle.edit_reader.specs.declared.commands.Refusal.{Refusal}
use Rattle.edit_reader.specs.declared.commands.Refusal.TheVariants as refusal
use Rattle.edit_reader.specs.Numbered.{Line, lines_of}
use Rattle.edit_reader.specs.Lines.{IsLine}
use Rattle.edit_reader.specs.Scripts.{AreLines, IsScript, IsMalformed}
use Rattle.edit_reader.specs.declared.commands.Added.{Added}
use Rattle.edit_reader.specs.declared.commands.Added.TheVariants.{Command, OutOfRange}
use Rattle.edit_reader.specs.declared.scripts.ScriptLine.{ScriptLine}

abbrev pub refusal_of : SdcFault → Refusal
refusal_of (ValueOf at) = refusal.OutOfRange at
refusal_of NoMemoryOf = refusal.Memory
refusal_of (SyntaxOf at) = refusal.Other
refusal_of (UnknownCommand name at) = refusal.Other
refusal_of (UnknownOption name at) = refusal.Other

-- the text is one timing command
abbrev pub IsCommand : Part → Added → Type 0
IsCommand text (Command command) = HasCommand text.bytes (Ok command)
IsCommand text (OutOfRange at) = (inside : ℕ) × (HasCommand text.bytes (Err (ValueOf inside)) × (at ≡ text.at + inside))

-- it is none, and none with a number out of its range
pub record IsNoCommand (text : Part) : Type 0 where
  pub unread : (command : SdcCommand) → HasCommand text.bytes (Ok command) → ⊥
  pub in_range : (at : ℕ) → HasCommand text.bytes (Err (ValueOf at)) → ⊥

abbrev pub IsAddedAnswer : Part → Result Added TextFault → Type 0
IsAddedAnswer text (Ok command) = IsCommand text command
IsAddedAnswer text (Err (Syntax at)) = IsNoCommand text
IsAddedAnswer text (Err (Value at)) = ⊥
IsAddedAnswer text (Err NoMemory) = Unit {0}

-- the offset is at most this one
abbrev pub IsAddedWithin : ℕ → Added → Type 0
IsAddedWithin stop (Command command) = Unit {0}
IsAddedWithin stop (OutOfRange at) = at ≤ stop

-- what a line says, and the least offset in it of a number out of its range
abbrev pub IsLineAnswer : ℕ → Line → Result (Option ScriptLine × Option ℕ) TextFault → Type 0
IsLineAnswer version line (Ok r) = IsLine version line r.0 r.1
IsLineAnswer version line (Err (Syntax at)) = (x : Option ScriptLine) (breach : Option ℕ) → IsLine version line x breach → ⊥
IsLineAnswer version line (Err (Value at)) = ⊥
IsLineAnswer version line (Err NoMemory) = Unit {0}

-- the same of lines
abbrev pub AreLinesAnswer : ℕ → List Line → Result (List ScriptLine × Option ℕ) TextFault → Type 0
AreLinesAnswer version lines (Ok r) = AreLines version lines r.0 r.1
AreLinesAnswer version lines (Err (Syntax at)) = (xs : List ScriptLine) (breach : Option ℕ) → AreLines version lines xs breach → ⊥
AreLinesAnswer version lines (Err (Value at)) = ⊥
AreLinesAnswer version lines (Err NoMemory) = Unit {0}

abbrev pub HaveReading : ℕ → List Line → Type 0
HaveReading version lines = (xs : List ScriptLine) × ((breach : Option ℕ) × AreLines version lines xs breach)

-- the lines that are left go on from what was read of all lines
pub record AreSoFar (version : ℕ) (lines : List Line) (found : List ScriptLine) (breach : Option ℕ) (left : List Line) : Type 0 where
  pub goes_on : (xs : List ScriptLine) (last : Option ℕ) → AreLines version left xs last → AreLines version lines (found ++ xs) (lesser breach last)
  pub only : HaveReading version lines → HaveReading version left

-- the same of a whole text
abbrev pub IsLooseAnswer : List ℕ → Result (List ScriptLine × Option ℕ) TextFault → Type 0
IsLooseAnswer text (Ok r) = IsScript (lines_of text) r.0 r.1
IsLooseAnswer text (Err (Syntax at)) = IsMalformed text
IsLooseAnswer text (Err (Value at)) = ⊥
IsLooseAnswer text (Err NoMemory) = Unit {0}

-- a fault is want of memory
abbrev pub IsMemory : {X : Type 0} → Result X TextFault → Type 0
IsMemory (Ok x) = Unit {0}
IsMemory (Err (Syntax at)) = ⊥
IsMemory (Err (Value at)) = ⊥
IsMemory (Err NoMemory) = Unit {0}
