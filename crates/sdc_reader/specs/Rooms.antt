-- How large words are, so that the offsets in them can be counted, and what is left in brackets.
use Rattle.std.specs.Prelude.{◌≡◌, ℕ, ◌+◌, ◌*◌, ◌<◌, ◌^◌, true, List, [], ◌∷◌, ◌++◌, length, Option, Some, None, Result, Ok, Err, if◌then◌else◌}
use Rattle.std.specs.List.{AllByRecursion}
use Rattle.tcl_words.specs.declared.words.Word.{Word}
use Rattle.sdc_reader.specs.declared.faults.SdcFault.{SdcFault}
use Rattle.sdc_reader.specs.declared.faults.SdcFault.TheVariants.{Syntax, UnknownCommand, UnknownOption, Value, NoMemory}
use Rattle.sdc_reader.specs.declared.opened.Found.{Found}
use Rattle.sdc_reader.specs.declared.opened.Finds.{Finds}
use Rattle.sdc_reader.specs.declared.opened.Inside.TheVariants.{Refused}
use Rattle.sdc_reader.specs.declared.opened.Opened.{Opened}
use Rattle.sdc_reader.specs.declared.opened.ObjectCommand.{ObjectCommand}
use Rattle.sdc_reader.specs.declared.opened.ObjectCommand.TheVariants.{Get, AllInputs, AllOutputs, AllClocks, List as ListOf}
use Rattle.bud_syntax.specs.declared.constraints.Object.TheVariants as object
use Rattle.sdc_reader.specs.declared.brackets.Head.{Head}
use Rattle.sdc_reader.specs.declared.brackets.Head.TheVariants.{Nothing, Misnamed, Named}
use Rattle.sdc_reader.specs.Words.{is_bracket}
use Rattle.sdc_reader.specs.Brackets.{Forest, Opens, got, all_found, listed, inside_of, object_command, opened}
use Rattle.sdc_reader.specs.Brackets.Forest.{nothing, plain_word}

-- the offsets in a word in brackets, and in the words in it, stay small
abbrev pub HasRoom : Word → Type 0
HasRoom w = is_bracket w.kind ≡ true → w.at + 2 * length w.text < 2 ^ 62

abbrev pub weight : Word → ℕ
weight w = if is_bracket w.kind then 1 + length w.text else 1

-- how many words there are, with those in their brackets, at most
abbrev pub weights : List Word → ℕ
weights [] = 0
weights (w ∷ ws) = weight w + weights ws

pub record HaveRoom (ws : List Word) : Type 0 where
  pub each : AllByRecursion HasRoom ws

-- these objects, and behind them what is found
abbrev pub found_then : List Found → Finds → Finds
found_then found finds = record { found = found ++ finds.found; refusal = finds.refusal }

-- memory ran out
abbrev pub IsMemory : SdcFault → Type 0
IsMemory (Syntax _) = ⊥
IsMemory (UnknownCommand _ _) = ⊥
IsMemory (UnknownOption _ _) = ⊥
IsMemory (Value _) = ⊥
IsMemory NoMemory = Unit {0}

-- an object command with its name and its words
pub record IsNamed (f : Forest) (command : ObjectCommand) (at : ℕ) (words : List Word) : Type 0 where
  pub first : Word
  pub rest : Forest
  pub is : f ≡ plain_word first rest
  pub command_is : object_command first.text ≡ Some command
  pub at_is : at ≡ first.at
  pub opens : Opens words rest

-- how brackets begin that hold these words, opened
abbrev pub IsHead : Forest → Result Head SdcFault → Type 0
IsHead f (Ok Nothing) = f ≡ nothing
IsHead f (Ok (Misnamed fault)) = inside_of f ≡ Refused fault
IsHead f (Ok (Named command at words)) = IsNamed f command at words
IsHead f (Err fault) = IsMemory fault

-- the words behind the name have room, and weigh less
abbrev pub HasRest : ℕ → Result Head SdcFault → Type 0
HasRest whole (Ok Nothing) = Unit {0}
HasRest whole (Ok (Misnamed _)) = Unit {0}
HasRest whole (Ok (Named _ _ words)) = HaveRoom words × (weights words < whole)
HasRest whole (Err _) = Unit {0}

-- what an object command but `list` finds
abbrev pub simple : ObjectCommand → ℕ → Forest → Option Finds
simple (Get kind) at f = Some (got kind at f)
simple AllInputs at f = Some (all_found at object.AllInputs f)
simple AllOutputs at f = Some (all_found at object.AllOutputs f)
simple AllClocks at f = Some (all_found at object.AllClocks f)
simple ListOf at f = None

-- what is left of a list after a word of it, of which this was the whole: more words, or a refusal
abbrev pub IsTurn : List Found → List Found → List Word → Finds → Result (Option SdcFault) SdcFault → Type 0
IsTurn old new left whole (Ok None) = (f : Forest) × (Opens left f × (found_then new (listed f) ≡ found_then old whole))
IsTurn old new left whole (Ok (Some fault)) = found_then old whole ≡ record { found = new; refusal = Some fault }
IsTurn old new left whole (Err fault) = IsMemory fault

-- what the words of a list find that are left, behind those that were found
abbrev pub IsLeft : List Found → List Word → Finds → Type 0
IsLeft found left whole = (f : Forest) × (Opens left f × (found_then found (listed f) ≡ whole))

-- the words are opened so far
abbrev pub AreLeft : List Opened → List Word → List Opened → Type 0
AreLeft so_far left whole = (f : Forest) × (Opens left f × (so_far ++ opened f ≡ whole))

-- what is pending behind a word of this weight has room, and weighs less than before with the word
abbrev pub IsRest : ℕ → List Word → List Word → Result (Option SdcFault) SdcFault → Type 0
IsRest whole old new (Ok _) = (AllByRecursion HasRoom old → AllByRecursion HasRoom new) × (weights new < weights old + whole)
IsRest whole old new (Err _) = Unit {0}

-- the first word of this forest, opened, and the rest of it
abbrev pub IsOpenedFirst : Word → Forest → Forest → Result Opened SdcFault → Type 0
IsOpenedFirst w f rest (Ok o) = opened f ≡ o ∷ opened rest
IsOpenedFirst w f rest (Err fault) = IsMemory fault
