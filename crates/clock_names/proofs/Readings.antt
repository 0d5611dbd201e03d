-- In constraints that are read each clock has a name that a clock may have.
use Rattle.std.proofs.Common.{◌≡◌, ℕ, ◌⊎◌, inl, inr, Bool, true, false, List, [], ◌∷◌, map, Option, Some, None, Ok, Err, All, refl, sym, true≢false, if◌then◌else◌}
use Rattle.std.proofs.lemmas.List.Elements.{All-nil, All-cons}
use Rattle.bud_syntax.specs.declared.constraints.Object.{Object}
use Rattle.bud_syntax.specs.declared.constraints.SdcCommand.TheVariants as timing
use Rattle.bud_syntax.specs.declared.constraints.SdcFile.{SdcFile}
use Rattle.tcl_words.specs.declared.words.Word.{Word}
use Rattle.sdc_reader.specs.declared.faults.SdcFault.TheVariants.{Syntax}
use Rattle.sdc_reader.specs.declared.given.Given.{Given}
use Rattle.sdc_reader.specs.declared.given.Collected.{Collected}
use Rattle.sdc_reader.specs.declared.given.TimeUnit.{TimeUnit}
use Rattle.sdc_reader.specs.declared.given.TimeUnit.TheVariants.{Nanoseconds}
use Rattle.sdc_reader.specs.declared.given.Line.{Line}
use Rattle.sdc_reader.specs.declared.given.Line.TheVariants as does
use Rattle.sdc_reader.specs.declared.opened.Opened.{Opened}
use Rattle.sdc_reader.specs.declared.options.CommandKind.{CommandKind}
use Rattle.sdc_reader.specs.declared.options.CommandKind.TheVariants.{Version, Units, Design, CreateClock, InputDelay, OutputDelay, FalsePath, Multicycle, MaxDelay}
use Rattle.sdc_reader.specs.declared.options.SdcOption.{SdcOption}
use Rattle.sdc_reader.specs.declared.options.SdcOption.TheVariants.{Name}
use Rattle.sdc_reader.specs.Answers.{Answer, ◌>>=◌}
use Rattle.sdc_reader.specs.Brackets.{opened}
use Rattle.sdc_reader.specs.Collecting.{is_named, nothing_given, complete, collected_all, awaits_word}
use Rattle.sdc_reader.specs.Commands.{needed, either, first_name, edges_of, objects_of, has_part, clock_line, input_delay_line, output_delay_line, false_path_line, multicycle_line, max_delay_line, unit_line, line, nothing_awaited, kind_word, behind_name, edge_of, is_setup, obeyed, command}
use Rattle.sdc_reader.specs.Files.{unit_after, with_line, file, Reads}
use Rattle.clock_names.specs.ClockNames.{HasClockName}
use Rattle.clock_names.proofs.Steps.{behind, answered, gave, IfThere, IsName, FirstIsNamed}
use Rattle.clock_names.proofs.Given.{HasName, IsGiven, Holds, all-holds, first-holds}

abbrev IsNamedLine : Line → Type 0
IsNamedLine does.Nothing = Unit {0}
IsNamedLine (does.Unit unit) = Unit {0}
IsNamedLine (does.Design name) = Unit {0}
IsNamedLine (does.Timing command) = HasClockName command

needed-is : {X : Type 0} (P : X → Type 0) (at : ℕ) (given : Option X) (x : X) → IfThere P given → needed at given ≡ Ok x → P x
needed-is P at None x holds is = (let no : ⊥ = cc in absurd no)
needed-is P at (Some y) x holds is = answered P y x holds is

first-is : (objects : Option (List Object)) → IfThere FirstIsNamed objects → IfThere IsName (first_name (objects_of objects))
first-is None holds = tt
first-is (Some []) holds = tt
first-is (Some (o ∷ os)) holds = holds

-- the name that is given, or that of the first source
name-is : (named : Bool) (name : Option (List ℕ)) (objects : Option (List Object)) → IfThere IsName name → (named ≡ false → IfThere FirstIsNamed objects) → (named ≡ true → HasName name) → IfThere IsName (either name (first_name (objects_of objects)))
name-is named (Some name) objects is first has = is
name-is true None objects is first has = absurd (has refl)
name-is false None objects is first has = first-is objects (first refl)

clock-named : (named : Bool) (at : ℕ) (given : Given) (l : Line) → IsGiven named given → (named ≡ true → HasName given.name) → clock_line at given ≡ Ok l → IsNamedLine l
unfolding clock_line
clock-named named at given l r has is =
    behind IsNamedLine (needed at given.period) (λ period. needed at (either given.name (first_name (objects_of given.objects))) >>= λ name. Ok (does.Timing (timing.Clock name period (edges_of period given.waveform).rise (edges_of period given.waveform).fall (objects_of given.objects)))) l
    (λ period read l is. gave IsNamedLine (needed at (either given.name (first_name (objects_of given.objects)))) (λ name. does.Timing (timing.Clock name period (edges_of period given.waveform).rise (edges_of period given.waveform).fall (objects_of given.objects))) l
    (λ name read. needed-is IsName at (either given.name (first_name (objects_of given.objects))) name (name-is named given.name given.objects r.name r.objects has) read) is) is

input-named : (at : ℕ) (given : Given) (l : Line) → input_delay_line at given ≡ Ok l → IsNamedLine l
unfolding input_delay_line
input-named at given l is =
    behind IsNamedLine (needed at given.amount) (λ amount. needed at given.clock >>= λ clock. (needed at given.objects >>= λ ports. Ok (does.Timing (timing.InputDelay amount clock (edge_of given.seen.clock_fall) (is_setup given.seen.min given.seen.max) given.seen.add_delay ports)))) l
    (λ amount read l is. behind IsNamedLine (needed at given.clock) (λ clock. needed at given.objects >>= λ ports. Ok (does.Timing (timing.InputDelay amount clock (edge_of given.seen.clock_fall) (is_setup given.seen.min given.seen.max) given.seen.add_delay ports))) l
    (λ clock read l is. gave IsNamedLine (needed at given.objects) (λ ports. does.Timing (timing.InputDelay amount clock (edge_of given.seen.clock_fall) (is_setup given.seen.min given.seen.max) given.seen.add_delay ports)) l (λ ports read. tt) is) is) is

output-named : (at : ℕ) (given : Given) (l : Line) → output_delay_line at given ≡ Ok l → IsNamedLine l
unfolding output_delay_line
output-named at given l is =
    behind IsNamedLine (needed at given.amount) (λ amount. needed at given.clock >>= λ clock. (needed at given.objects >>= λ ports. Ok (does.Timing (timing.OutputDelay amount clock (edge_of given.seen.clock_fall) (is_setup given.seen.min given.seen.max) given.seen.add_delay ports)))) l
    (λ amount read l is. behind IsNamedLine (needed at given.clock) (λ clock. needed at given.objects >>= λ ports. Ok (does.Timing (timing.OutputDelay amount clock (edge_of given.seen.clock_fall) (is_setup given.seen.min given.seen.max) given.seen.add_delay ports))) l
    (λ clock read l is. gave IsNamedLine (needed at given.objects) (λ ports. does.Timing (timing.OutputDelay amount clock (edge_of given.seen.clock_fall) (is_setup given.seen.min given.seen.max) given.seen.add_delay ports)) l (λ ports read. tt) is) is) is

false-named : (at : ℕ) (given : Given) (l : Line) → false_path_line at given ≡ Ok l → IsNamedLine l
unfolding false_path_line
false-named at given l is = gave IsNamedLine (has_part at given) (λ done. does.Timing (timing.FalsePath (is_setup given.seen.hold given.seen.setup) given.from given.through given.to)) l (λ done read. tt) is

multicycle-named : (at : ℕ) (given : Given) (l : Line) → multicycle_line at given ≡ Ok l → IsNamedLine l
unfolding multicycle_line
multicycle-named at given l is =
    behind IsNamedLine (needed at given.count) (λ n. has_part at given >>= λ done. Ok (does.Timing (timing.Multicycle n (is_setup given.seen.hold given.seen.setup) given.seen.start given.from given.through given.to))) l
    (λ n read l is. gave IsNamedLine (has_part at given) (λ done. does.Timing (timing.Multicycle n (is_setup given.seen.hold given.seen.setup) given.seen.start given.from given.through given.to)) l (λ done read. tt) is) is

max-named : (at : ℕ) (given : Given) (l : Line) → max_delay_line at given ≡ Ok l → IsNamedLine l
unfolding max_delay_line
max-named at given l is =
    behind IsNamedLine (needed at given.amount) (λ amount. has_part at given >>= λ done. Ok (does.Timing (timing.MaxDelay amount given.from given.through given.to))) l
    (λ amount read l is. gave IsNamedLine (has_part at given) (λ done. does.Timing (timing.MaxDelay amount given.from given.through given.to)) l (λ done read. tt) is) is

version-named : (at : ℕ) (there : Bool) (l : Line) → ◌≡◌ {A = Answer Line} (if there then Ok does.Nothing else Err (Syntax at)) (Ok l) → IsNamedLine l
version-named at true l is = answered IsNamedLine does.Nothing l tt is
version-named at false l is = (let no : ⊥ = cc in absurd no)

unit-named : (unit : Option TimeUnit) → IsNamedLine (unit_line unit)
unit-named None = tt
unit-named (Some unit) = tt

-- what was given to a command that makes a clock
abbrev IsFor : CommandKind → Bool → Given → Type 0
IsFor CreateClock named given = IsGiven named given × (named ≡ true → HasName given.name)
IsFor _ named given = Unit {0}

line-named : (kind : CommandKind) (named : Bool) (at : ℕ) (given : Given) (l : Line) → IsFor kind named given → line kind at given ≡ Ok l → IsNamedLine l
unfolding line
line-named Version named at given l r is = version-named at given.version l is
line-named Units named at given l r is = answered IsNamedLine (unit_line given.unit) l (unit-named given.unit) is
line-named Design named at given l r is = gave IsNamedLine (needed at given.name) (λ name. does.Design name) l (λ name read. tt) is
line-named CreateClock named at given l r is = clock-named named at given l r.0 r.1 is
line-named InputDelay named at given l r is = input-named at given l is
line-named OutputDelay named at given l r is = output-named at given l is
line-named FalsePath named at given l r is = false-named at given l is
line-named Multicycle named at given l r is = multicycle-named at given l is
line-named MaxDelay named at given l r is = max-named at given l is

-- at the end no option waits
ended : (named : Bool) (last : Collected) (at : ℕ) (done : Unit {0}) → Holds named last [] → nothing_awaited at last.awaits ≡ Ok done → named ≡ true → HasName last.given.name
unfolding is_named
ended named last at done holds none apt = by_case last.awaits none (holds.stands apt)
  where
    by_case : (awaits : Option SdcOption) → nothing_awaited at awaits ≡ Ok done → HasName last.given.name ⊎ ((awaits ≡ Some Name) ⊎ (is_named CreateClock (awaits_word awaits) [] ≡ true)) → HasName last.given.name
    by_case awaits none (inl has) = has
    by_case None none (inr (inl waits)) = (let no : ⊥ = cc in absurd no)
    by_case (Some option) none (inr (inl waits)) = (let no : ⊥ = cc in absurd no)
    by_case awaits none (inr (inr later)) = absurd (true≢false (sym later))

given-for : (kind : CommandKind) (unit : TimeUnit) (words : List Opened) (at : ℕ) (last : Collected) (done : Unit {0})
    → collected_all (record { unit = unit; kind = kind; named = is_named kind false words }) (complete nothing_given) words ≡ Ok last → nothing_awaited at last.awaits ≡ Ok done → IsFor kind (is_named kind false words) last.given
given-for Version unit words at last done read none = tt
given-for Units unit words at last done read none = tt
given-for Design unit words at last done read none = tt
given-for CreateClock unit words at last done read none =
    let holds = all-holds unit (is_named CreateClock false words) (complete nothing_given) last words (first-holds words) read in
    (holds.given, λ apt. ended (is_named CreateClock false words) last at done holds none apt)
given-for InputDelay unit words at last done read none = tt
given-for OutputDelay unit words at last done read none = tt
given-for FalsePath unit words at last done read none = tt
given-for Multicycle unit words at last done read none = tt
given-for MaxDelay unit words at last done read none = tt

obeyed-named : (unit : TimeUnit) (kind : CommandKind) (name : Word) (os : List Opened) (l : Line) → obeyed unit kind name os ≡ Ok l → IsNamedLine l
unfolding obeyed
obeyed-named unit kind name os l is =
    behind IsNamedLine (behind_name kind name os)
    (λ words. collected_all (record { unit = unit; kind = kind; named = is_named kind false words }) (complete nothing_given) words >>= λ last. (nothing_awaited name.at last.awaits >>= λ done. line kind name.at last.given)) l
    (λ words stands l is. behind IsNamedLine (collected_all (record { unit = unit; kind = kind; named = is_named kind false words }) (complete nothing_given) words) (λ last. nothing_awaited name.at last.awaits >>= λ done. line kind name.at last.given) l
    (λ last read l is. behind IsNamedLine (nothing_awaited name.at last.awaits) (λ done. line kind name.at last.given) l
    (λ done none l is. line-named kind (is_named kind false words) name.at last.given l (given-for kind unit words name.at last done read none) is) is) is) is

command-named : (unit : TimeUnit) (os : List Opened) (l : Line) → command unit os ≡ Ok l → IsNamedLine l
unfolding command
command-named unit [] l is = answered IsNamedLine does.Nothing l tt is
command-named unit (name ∷ words) l is = behind IsNamedLine (kind_word name) (λ kind. obeyed unit kind name.word words) l (λ kind known l is. obeyed-named unit kind name.word words l is) is

abbrev IsNamedFile : SdcFile → Type 0
IsNamedFile f = All HasClockName f.commands

with_line-named : (l : Line) (f : SdcFile) → IsNamedLine l → IsNamedFile f → IsNamedFile (with_line l f)
with_line-named does.Nothing f named rest = rest
with_line-named (does.Unit unit) f named rest = rest
with_line-named (does.Design name) f named rest = rest
with_line-named (does.Timing c) f named rest = All-cons HasClockName c f.commands named rest

file-named : (unit : TimeUnit) (words : List (List Opened)) (f : SdcFile) → file unit words ≡ Ok f → IsNamedFile f
unfolding file
file-named unit [] f is = answered IsNamedFile (record { design = None; commands = [] }) f (All-nil HasClockName) is
file-named unit (words ∷ others) f is =
    behind IsNamedFile (command unit words) (λ l. file (unit_after unit l) others >>= λ rest. Ok (with_line l rest)) f
    (λ l read f is. gave IsNamedFile (file (unit_after unit l) others) (λ rest. with_line l rest) f (λ rest reads. with_line-named l rest (command-named unit words l read) (file-named (unit_after unit l) others rest reads)) is) is

-- the commands of a text that reads
pub clocks_named : (text : List ℕ) (f : SdcFile) → Reads text f → All HasClockName f.commands
clocks_named text f reads = file-named Nanoseconds (map opened reads.forests) f reads.says
