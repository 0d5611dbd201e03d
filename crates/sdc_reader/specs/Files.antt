-- Whole texts: their commands one after the other.
use Rattle.std.specs.Prelude.{◌≡◌, ℕ, Some, None, List, [], ◌∷◌, ◌++◌, map, Result, Ok, Err}
use Rattle.tcl_words.specs.Commands.{Splits}
use Rattle.tcl_words.specs.declared.words.Word.{Word}
use Rattle.bud_syntax.specs.declared.constraints.SdcCommand.{SdcCommand}
use Rattle.bud_syntax.specs.declared.constraints.SdcFile.{SdcFile}
use Rattle.sdc_reader.specs.declared.faults.SdcFault.{SdcFault}
use Rattle.sdc_reader.specs.declared.faults.SdcFault.TheVariants.{Syntax, UnknownCommand, UnknownOption, Value, NoMemory}
use Rattle.sdc_reader.specs.declared.given.TimeUnit.{TimeUnit}
use Rattle.sdc_reader.specs.declared.given.TimeUnit.TheVariants.{Nanoseconds}
use Rattle.sdc_reader.specs.declared.given.Line.{Line}
use Rattle.sdc_reader.specs.declared.given.Line.TheVariants as does
use Rattle.sdc_reader.specs.declared.opened.Opened.{Opened}
use Rattle.sdc_reader.specs.declared.reader.Progress.{Progress}
use Rattle.sdc_reader.specs.Answers.{Answer, ◌>>=◌}
use Rattle.sdc_reader.specs.Brackets.{Forest, Opens, opened}
use Rattle.sdc_reader.specs.Commands.{command, either, single}

-- the unit of times behind a line
abbrev pub unit_after : TimeUnit → Line → TimeUnit
unit_after unit does.Nothing = unit
unit_after unit (does.Unit next) = next
unit_after unit (does.Design _) = unit
unit_after unit (does.Timing _) = unit

-- the same file with a line before it; of several designs the last one counts
abbrev pub with_line : Line → SdcFile → SdcFile
with_line does.Nothing file = file
with_line (does.Unit _) file = file
with_line (does.Design name) file = record file { design = either file.design (Some name) }
with_line (does.Timing command) file = record file { commands = command ∷ file.commands }

-- what these commands say, from left to right
unfoldable pub file : TimeUnit → List (List Opened) → Answer SdcFile
file unit [] = Ok (record { design = None; commands = [] })
file unit (words ∷ others) = do
  line ← command unit words
  rest ← file (unit_after unit line) others
  Ok (with_line line rest)

-- the words of each command, opened
abbrev pub OpenAll : List (List Word) → List Forest → Type 0
OpenAll [] [] = Unit {0}
OpenAll [] (_ ∷ _) = ⊥
OpenAll (_ ∷ _) [] = ⊥
OpenAll (words ∷ others) (f ∷ fs) = Opens words f × OpenAll others fs

-- The answer that the text has: it splits into commands, with words in their brackets, and the commands, with times in
-- nanoseconds at first, say so or are refused so.
pub record HasAnswer (text : List ℕ) (answer : Answer SdcFile) : Type 0 where
  pub commands : List (List Word)
  pub splits : Splits text commands
  pub forests : List Forest
  pub open_all : OpenAll commands forests
  pub says : file Nanoseconds (map opened forests) ≡ answer

-- the text isn't made of words
abbrev pub IsTorn : List ℕ → Type 0
IsTorn text = (commands : List (List Word)) → Splits text commands → ⊥

-- the text reads as this
abbrev pub Reads : List ℕ → SdcFile → Type 0
Reads text value = HasAnswer text (Ok value)

-- A text has the answer Syntax where it isn't made of words, whatever the offset; else the first refused command decides.
pub data IsSyntaxAt (text : List ℕ) (at : ℕ) : Type 0 where
  torn : IsTorn text → IsSyntaxAt text at
  refused : HasAnswer text (Err (Syntax at)) → IsSyntaxAt text at

-- what each answer of `read_sdc` says of the text
abbrev pub IsReadAnswer : List ℕ → Result SdcFile SdcFault → Type 0
IsReadAnswer text (Ok value) = Reads text value
IsReadAnswer text (Err (Syntax at)) = IsSyntaxAt text at
IsReadAnswer text (Err (UnknownCommand name at)) = HasAnswer text (Err (UnknownCommand name at))
IsReadAnswer text (Err (UnknownOption name at)) = HasAnswer text (Err (UnknownOption name at))
IsReadAnswer text (Err (Value at)) = HasAnswer text (Err (Value at))
IsReadAnswer text (Err NoMemory) = Unit {0}

-- what was read so far, and the unit in force
abbrev pub advanced : Progress → Line → Progress
advanced progress does.Nothing = progress
advanced progress (does.Unit unit) = record progress { unit = unit }
advanced progress (does.Design name) = record progress { design = Some name }
advanced progress (does.Timing command) = record progress { commands = progress.commands ++ command ∷ [] }

abbrev pub begun : Progress
begun = record { unit = Nanoseconds; design = None; commands = [] }

-- what is read behind it
abbrev pub behind_progress : Progress → Answer SdcFile → Answer SdcFile
behind_progress progress read = read >>= λ rest. Ok (record { design = either rest.design progress.design; commands = progress.commands ++ rest.commands })

-- the commands that are left go on to this answer
abbrev pub GoesOn : Progress → List (List Word) → Answer SdcFile → Type 0
GoesOn progress left answer = (fs : List Forest) × (OpenAll left fs × (behind_progress progress (file progress.unit (map opened fs)) ≡ answer))

-- no command stands here; else it is refused at its name
abbrev pub none_more : List (List Word) → Answer (Unit {0})
none_more [] = Ok tt
none_more ([] ∷ _) = Err (Syntax 0)
none_more ((name ∷ _) ∷ _) = Err (Syntax name.at)

-- one timing command and no other, of which this is the opening
abbrev pub only : Answer SdcCommand → List (List Word) → Answer SdcCommand
only read others = do
  command ← read
  done ← none_more others
  Ok command

-- The answer that a text has of which one timing command is wanted.
pub record HasCommand (text : List ℕ) (answer : Answer SdcCommand) : Type 0 where
  pub first : List Word
  pub others : List (List Word)
  pub splits : Splits text (first ∷ others)
  pub forest : Forest
  pub opens : Opens first forest
  pub says : only (single (opened forest)) others ≡ answer

-- the text isn't made of words, or has no command
pub data HasNone (text : List ℕ) : Type 0 where
  torn : IsTorn text → HasNone text
  empty : Splits text [] → HasNone text

pub data IsCommandSyntax (text : List ℕ) (at : ℕ) : Type 0 where
  none : HasNone text → IsCommandSyntax text at
  refused : HasCommand text (Err (Syntax at)) → IsCommandSyntax text at

-- what each answer of `read_command` says of the text
abbrev pub IsCommandAnswer : List ℕ → Result SdcCommand SdcFault → Type 0
IsCommandAnswer text (Ok value) = HasCommand text (Ok value)
IsCommandAnswer text (Err (Syntax at)) = IsCommandSyntax text at
IsCommandAnswer text (Err (UnknownCommand name at)) = HasCommand text (Err (UnknownCommand name at))
IsCommandAnswer text (Err (UnknownOption name at)) = HasCommand text (Err (UnknownOption name at))
IsCommandAnswer text (Err (Value at)) = HasCommand text (Err (Value at))
IsCommandAnswer text (Err NoMemory) = Unit {0}
