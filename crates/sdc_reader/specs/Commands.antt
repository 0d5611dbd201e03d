-- What a command does.
use Rattle.std.specs.Prelude.{ℕ, ℤ, pos, ◌&&◌, not, Bool, true, false, Option, Some, None, is_none, List, [], ◌∷◌, Ok, Err, codes, if◌then◌else◌}
use Rattle.std.specs.Str.{bytes_eq}
use Rattle.tcl_words.specs.declared.words.Word.{Word}
use Rattle.bud_syntax.specs.declared.constraints.SdcCommand.{SdcCommand}
use Rattle.bud_syntax.specs.declared.constraints.Object.{Object}
use Rattle.bud_syntax.specs.declared.constraints.SdcCommand.TheVariants as timing
use Rattle.bud_syntax.specs.declared.edges.Edge.{Edge}
use Rattle.bud_syntax.specs.declared.edges.Edge.TheVariants.{Rise, Fall}
use Rattle.sdc_reader.specs.declared.faults.SdcFault.TheVariants.{Syntax, UnknownCommand}
use Rattle.sdc_reader.specs.declared.opened.Inside.{Inside}
use Rattle.sdc_reader.specs.declared.opened.Inside.TheVariants.{Empty, Refused, Command}
use Rattle.sdc_reader.specs.declared.opened.Opened.{Opened}
use Rattle.sdc_reader.specs.declared.options.CommandKind.{CommandKind}
use Rattle.sdc_reader.specs.declared.options.CommandKind.TheVariants.{Version, Units, Design, CreateClock, InputDelay, OutputDelay, FalsePath, Multicycle, MaxDelay}
use Rattle.sdc_reader.specs.declared.options.SdcOption.{SdcOption}
use Rattle.sdc_reader.specs.declared.given.TimeUnit.{TimeUnit}
use Rattle.sdc_reader.specs.declared.given.TimeUnit.TheVariants.{Nanoseconds}
use Rattle.sdc_reader.specs.declared.given.Waveform.{Waveform}
use Rattle.sdc_reader.specs.declared.given.Given.{Given}
use Rattle.sdc_reader.specs.declared.given.Line.{Line}
use Rattle.sdc_reader.specs.declared.given.Line.TheVariants as does
use Rattle.sdc_reader.specs.Answers.{Answer, ◌>>=◌}
use Rattle.sdc_reader.specs.Numbers.{half}
use Rattle.sdc_reader.specs.Options.{kind_of}
use Rattle.sdc_reader.specs.Values.{name_in}
use Rattle.sdc_reader.specs.Collecting.{nothing_given, complete, collected_all, is_named}

-- a word that is needed; the command's name begins at this offset
abbrev pub needed : {X : Type 0} → ℕ → Option X → Answer X
needed at None = Err (Syntax at)
needed at (Some x) = Ok x

abbrev pub either : {X : Type 0} → Option X → Option X → Option X
either None other = other
either (Some x) other = Some x

-- the name of the first source
abbrev pub first_name : List Object → Option (List ℕ)
first_name [] = None
first_name (object ∷ _) = name_in object

-- without `-waveform` a clock rises at 0 and falls at half the period, rounded down
abbrev pub edges_of : ℤ → Option Waveform → Waveform
edges_of period None = record { rise = pos 0; fall = half period }
edges_of period (Some waveform) = waveform

abbrev pub objects_of : Option (List Object) → List Object
objects_of None = []
objects_of (Some objects) = objects

abbrev pub edge_of : Bool → Edge
edge_of false = Rise
edge_of true = Fall

-- false where `-min` was given without `-max`, or `-hold` without `-setup`
abbrev pub is_setup : Bool → Bool → Bool
is_setup least greatest = not (least && not greatest)

abbrev pub is_empty : {X : Type 0} → List X → Bool
is_empty [] = true
is_empty (x ∷ xs) = false

-- an exception has a from-part, a through group or a to-part
abbrev pub has_part : ℕ → Given → Answer (Unit {0})
has_part at given = if is_none given.from && (is_empty given.through && is_none given.to) then Err (Syntax at) else Ok tt

unfoldable pub clock_line : ℕ → Given → Answer Line
clock_line at given = do
  period ← needed at given.period
  name ← needed at (either given.name (first_name (objects_of given.objects)))
  Ok (does.Timing (timing.Clock name period (edges_of period given.waveform).rise (edges_of period given.waveform).fall (objects_of given.objects)))

unfoldable pub input_delay_line : ℕ → Given → Answer Line
input_delay_line at given = do
  amount ← needed at given.amount
  clock ← needed at given.clock
  ports ← needed at given.objects
  Ok (does.Timing (timing.InputDelay amount clock (edge_of given.seen.clock_fall) (is_setup given.seen.min given.seen.max) given.seen.add_delay ports))

unfoldable pub output_delay_line : ℕ → Given → Answer Line
output_delay_line at given = do
  amount ← needed at given.amount
  clock ← needed at given.clock
  ports ← needed at given.objects
  Ok (does.Timing (timing.OutputDelay amount clock (edge_of given.seen.clock_fall) (is_setup given.seen.min given.seen.max) given.seen.add_delay ports))

unfoldable pub false_path_line : ℕ → Given → Answer Line
false_path_line at given = do
  done ← has_part at given
  Ok (does.Timing (timing.FalsePath (is_setup given.seen.hold given.seen.setup) given.from given.through given.to))

unfoldable pub multicycle_line : ℕ → Given → Answer Line
multicycle_line at given = do
  count ← needed at given.count
  done ← has_part at given
  Ok (does.Timing (timing.Multicycle count (is_setup given.seen.hold given.seen.setup) given.seen.start given.from given.through given.to))

unfoldable pub max_delay_line : ℕ → Given → Answer Line
max_delay_line at given = do
  amount ← needed at given.amount
  done ← has_part at given
  Ok (does.Timing (timing.MaxDelay amount given.from given.through given.to))

abbrev pub unit_line : Option TimeUnit → Line
unit_line None = does.Nothing
unit_line (Some unit) = does.Unit unit

-- what the command does that has these words, unless one is missing; its name begins at this offset
unfoldable pub line : CommandKind → ℕ → Given → Answer Line
line Version at given = if given.version then Ok does.Nothing else Err (Syntax at)
line Units at given = Ok (unit_line given.unit)
line Design at given = needed at given.name >>= λ name. Ok (does.Design name)
line CreateClock at given = clock_line at given
line InputDelay at given = input_delay_line at given
line OutputDelay at given = output_delay_line at given
line FalsePath at given = false_path_line at given
line Multicycle at given = multicycle_line at given
line MaxDelay at given = max_delay_line at given

-- the word of the last option is missing
abbrev pub nothing_awaited : ℕ → Option SdcOption → Answer (Unit {0})
nothing_awaited at None = Ok tt
nothing_awaited at (Some option) = Err (Syntax at)

abbrev pub known : Word → Option CommandKind → Answer CommandKind
known w None = Err (UnknownCommand w.text w.at)
known w (Some kind) = Ok kind

abbrev pub named_kind : Word → Option Inside → Answer CommandKind
named_kind w None = known w (kind_of w.text)
named_kind w (Some Empty) = Err (Syntax w.at)
named_kind w (Some (Refused _)) = Err (UnknownCommand w.text w.at)
named_kind w (Some (Command _ _ _ _)) = Err (UnknownCommand w.text w.at)

-- the command of this name
unfoldable pub kind_word : Opened → Answer CommandKind
kind_word name = named_kind name.word name.inside

abbrev pub is_version : Opened → Bool
is_version o = is_none o.inside && bytes_eq o.word.text (codes "sdc_version")

-- behind `set` stands the variable `sdc_version`; of another variable the command isn't known
abbrev pub behind_variable : Word → List Opened → Answer (List Opened)
behind_variable name [] = Err (Syntax name.at)
behind_variable name (variable ∷ words) = if is_version variable then Ok words else Err (UnknownCommand name.text name.at)

abbrev pub is_set : CommandKind → Bool
is_set Version = true
is_set Units = false
is_set Design = false
is_set CreateClock = false
is_set InputDelay = false
is_set OutputDelay = false
is_set FalsePath = false
is_set Multicycle = false
is_set MaxDelay = false

abbrev pub behind_name : CommandKind → Word → List Opened → Answer (List Opened)
behind_name kind name words = if is_set kind then behind_variable name words else Ok words

-- what a command of this kind does: its words from left to right, then what is missing
unfoldable pub obeyed : TimeUnit → CommandKind → Word → List Opened → Answer Line
obeyed unit kind name words = do
  words ← behind_name kind name words
  last ← collected_all (record { unit = unit; kind = kind; named = is_named kind false words }) (complete nothing_given) words
  done ← nothing_awaited name.at last.awaits
  line kind name.at last.given

-- what a command does: its name comes first
unfoldable pub command : TimeUnit → List Opened → Answer Line
command unit [] = Ok does.Nothing
command unit (name ∷ words) = do
  kind ← kind_word name
  obeyed unit kind name.word words

abbrev pub is_timing : CommandKind → Bool
is_timing Version = false
is_timing Units = false
is_timing Design = false
is_timing CreateClock = true
is_timing InputDelay = true
is_timing OutputDelay = true
is_timing FalsePath = true
is_timing Multicycle = true
is_timing MaxDelay = true

-- where a timing command is to stand, others aren't known
abbrev pub timing_kind : Word → CommandKind → Answer (Unit {0})
timing_kind name kind = if is_timing kind then Ok tt else Err (UnknownCommand name.text name.at)

abbrev pub timing_of : Line → Answer SdcCommand
timing_of does.Nothing = Err (Syntax 0)
timing_of (does.Unit _) = Err (Syntax 0)
timing_of (does.Design _) = Err (Syntax 0)
timing_of (does.Timing command) = Ok command

-- a timing command, with times in nanoseconds
unfoldable pub single : List Opened → Answer SdcCommand
single [] = Err (Syntax 0)
single (name ∷ words) = do
  kind ← kind_word name
  done ← timing_kind name.word kind
  line ← obeyed Nanoseconds kind name.word words
  timing_of line
