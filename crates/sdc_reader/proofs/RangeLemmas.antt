-- The numbers of commands lie in their ranges.
use Rattle.std.proofs.Common.{◌≡◌, ℕ, ◌/◌, ◌≤◌, ℤ, pos, negsuc, ◌≤ℤ◌, ◌||◌, ◌++◌, Bool, true, false, List, [], ◌∷◌, map, Option, Some, None, Result, Ok, Err, All, IfOk, arith, refl, sym, subst, if◌then◌else◌}
use Rattle.std.proofs.lemmas.Int.{ints}
use Rattle.std.proofs.lemmas.List.Elements.{All-nil, All-cons}
use Rattle.text_scan.specs.declared.decimals.Round.{Round}
use Rattle.line_text.specs.Numbers.{is_within, unsigned, whole_of}
use Rattle.bud_syntax.specs.Ranges.{IsReadTime, IsReadCommand}
use Rattle.bud_syntax.specs.declared.constraints.SdcCommand.{SdcCommand}
use Rattle.bud_syntax.specs.declared.constraints.SdcFile.{SdcFile}
use Rattle.tcl_words.specs.declared.words.Word.{Word}
use Rattle.sdc_reader.specs.declared.faults.SdcFault.{SdcFault}
use Rattle.sdc_reader.specs.declared.faults.SdcFault.TheVariants.{Syntax, UnknownCommand, UnknownOption, Value, NoMemory}
use Rattle.sdc_reader.specs.declared.given.Setting.{Setting}
use Rattle.sdc_reader.specs.declared.given.Given.{Given}
use Rattle.sdc_reader.specs.declared.given.Collected.{Collected}
use Rattle.sdc_reader.specs.declared.given.Waveform.{Waveform}
use Rattle.sdc_reader.specs.declared.given.TimeUnit.{TimeUnit}
use Rattle.sdc_reader.specs.declared.given.TimeUnit.TheVariants.{Nanoseconds}
use Rattle.text_scan.specs.declared.decimals.Round.TheVariants.{Down}
use Rattle.tcl_words.specs.Lists.{elements}
use Rattle.bud_syntax.specs.declared.constraints.SdcCommand.TheVariants as timing
use Rattle.sdc_reader.specs.Options.{option_of, has, excludes, with_option, takes_word}
use Rattle.sdc_reader.specs.declared.given.Slot.{Slot}
use Rattle.sdc_reader.specs.declared.given.Slot.TheVariants as slot
use Rattle.sdc_reader.specs.declared.given.Line.{Line}
use Rattle.sdc_reader.specs.declared.given.Line.TheVariants as does
use Rattle.sdc_reader.specs.declared.opened.Opened.{Opened}
use Rattle.sdc_reader.specs.declared.options.CommandKind.{CommandKind}
use Rattle.sdc_reader.specs.declared.options.CommandKind.TheVariants.{Version, Units, Design, CreateClock, InputDelay, OutputDelay, FalsePath, Multicycle, MaxDelay}
use Rattle.sdc_reader.specs.declared.options.SdcOption.{SdcOption}
use Rattle.sdc_reader.specs.declared.options.SdcOption.TheVariants.{Time, Resistance, Capacitance, Current, Voltage, Power, Period, Name, Waveform as WaveformOption, Comment, Clock, ClockFall, Max, Min, AddDelay, Setup, Hold, Start, End, From, Through, To}
use Rattle.sdc_reader.specs.Answers.{Answer, ◌>>=◌}
use Rattle.sdc_reader.specs.Brackets.{opened}
use Rattle.sdc_reader.specs.Collecting.{is_named, nothing_given, complete, option_word, slot_of, slot_word, value, begun_option, option, collected_by, collected, collected_all}
use Rattle.sdc_reader.specs.Commands.{needed, either, first_name, edges_of, objects_of, has_part, clock_line, input_delay_line, output_delay_line, false_path_line, multicycle_line, max_delay_line, unit_line, line, nothing_awaited, kind_word, behind_name, edge_of, is_setup, obeyed, command, timing_kind, timing_of, single}
use Rattle.sdc_reader.specs.Files.{unit_after, with_line, file, HasAnswer, IsReadAnswer, none_more, only, HasCommand, IsCommandAnswer}
use Rattle.sdc_reader.specs.Numbers.{is_decimal, is_small, amount_in, time, counted, count, half}
use Rattle.sdc_reader.specs.Values.{whole, time_word, count_word, times, two_edges, listed_times, waveform, unit_word, clock_name_word, clock, object_word, group_word, any, in_ps, surplus_word}
use Rattle.sdc_reader.specs.Words.{is_bare, is_option}

-- one step after the other: what holds behind both
behind : {A B : Type 0} (P : B → Type 0) (read : Answer A) (f : A → Answer B) (y : B) → ((x : A) → read ≡ Ok x → (z : B) → f x ≡ Ok z → P z) → (read >>= f) ≡ Ok y → P y
behind P (Ok x) f y holds is = holds x refl y is
behind P (Err fault) f y holds is = (let no : ⊥ = cc in absurd no)

-- what is answered
answered : {B : Type 0} (P : B → Type 0) (x y : B) → P x → ◌≡◌ {A = Answer B} (Ok x) (Ok y) → P y
answered P x y holds is = (let same : x ≡ y = cc in subst P same holds)

-- a step that gives this
gave : {A B : Type 0} (P : B → Type 0) (read : Answer A) (f : A → B) (y : B) → ((x : A) → read ≡ Ok x → P (f x)) → (read >>= λ x. Ok (f x)) ≡ Ok y → P y
gave P read f y holds is = behind P read (λ x. Ok (f x)) y (λ x read_is z is. answered P (f x) z (holds x read_is) is) is

abbrev IfThere : {X : Type 0} → (X → Type 0) → Option X → Type 0
IfThere P None = Unit {0}
IfThere P (Some x) = P x

abbrev IsReadCount : ℕ → Type 0
IsReadCount n = (1 ≤ n) × (n ≤ 1000)

abbrev AreReadEdges : Waveform → Type 0
AreReadEdges w = IsReadTime w.rise × IsReadTime w.fall

-- the numbers that are given lie in their ranges
record IsReadGiven (given : Given) : Type 0 where
  pub amount : IfThere IsReadTime given.amount
  pub count : IfThere IsReadCount given.count
  pub period : IfThere IsReadTime given.period
  pub waveform : IfThere AreReadEdges given.waveform

small_read : (n : ℤ) → is_small n ≡ true → IsReadTime n
small_read n small = record { low = grind (arith, ints); high = grind (arith, ints) }

time_of : (decimal small : Bool) (at : ℕ) (n z : ℤ) → (small ≡ true → IsReadTime n) → ◌≡◌ {A = Answer ℤ} (if decimal then (if small then Ok n else Err (Value at)) else Err (Syntax at)) (Ok z) → IsReadTime z
time_of true true at n z holds is = answered IsReadTime n z (holds refl) is
time_of true false at n z holds is = (let no : ⊥ = cc in absurd no)
time_of false true at n z holds is = (let no : ⊥ = cc in absurd no)
time_of false false at n z holds is = (let no : ⊥ = cc in absurd no)

time_read : (unit : ℕ) (round : Round) (at : ℕ) (text : List ℕ) (z : ℤ) → time unit round at text ≡ Ok z → IsReadTime z
unfolding time
time_read unit round at text z is = time_of (is_decimal text) (is_small (amount_in unit round text)) at (amount_in unit round text) z (small_read (amount_in unit round text)) is

time_word_read : (unit : TimeUnit) (round : Round) (o : Opened) (z : ℤ) → time_word unit round o ≡ Ok z → IsReadTime z
unfolding time_word
time_word_read unit round o z is = behind IsReadTime (whole o) (λ text. time (in_ps unit) round o.word.at text) z (λ text read z is. time_read (in_ps unit) round o.word.at text z is) is

within_count : (n : ℤ) → is_within (pos 1) (pos 1000) n ≡ true → IsReadCount (unsigned n)
within_count (pos n) within = (grind (arith, ints), grind (arith, ints))
within_count (negsuc n) within = (grind (arith, ints), grind (arith, ints))

count_of : (within : Bool) (at n m : ℕ) → (within ≡ true → IsReadCount n) → ◌≡◌ {A = Answer ℕ} (if within then Ok n else Err (Value at)) (Ok m) → IsReadCount m
count_of true at n m holds is = answered IsReadCount n m (holds refl) is
count_of false at n m holds is = (let no : ⊥ = cc in absurd no)

counted_read : (at : ℕ) (n : Option ℤ) (m : ℕ) → counted at n ≡ Ok m → IsReadCount m
counted_read at None m is = (let no : ⊥ = cc in absurd no)
counted_read at (Some n) m is = count_of (is_within (pos 1) (pos 1000) n) at (unsigned n) m (within_count n) is

count_read : (at : ℕ) (text : List ℕ) (m : ℕ) → count at text ≡ Ok m → IsReadCount m
unfolding count
count_read at text m is = counted_read at (whole_of text) m is

count_word_read : (o : Opened) (m : ℕ) → count_word o ≡ Ok m → IsReadCount m
unfolding count_word
count_word_read o m is = behind IsReadCount (whole o) (λ text. count o.word.at text) m (λ text read m is. count_read o.word.at text m is) is

abbrev AreReadTimes : List ℤ → Type 0
AreReadTimes [] = Unit {0}
AreReadTimes (z ∷ zs) = IsReadTime z × AreReadTimes zs

times_read : (unit at : ℕ) (elements : List (List ℕ)) (zs : List ℤ) → times unit at elements ≡ Ok zs → AreReadTimes zs
unfolding times
times_read unit at [] zs is = answered AreReadTimes [] zs tt is
times_read unit at (element ∷ others) zs is =
    behind AreReadTimes (time unit Down at element) (λ first. times unit at others >>= λ rest. Ok (first ∷ rest)) zs
    (λ first read zs is. gave AreReadTimes (times unit at others) (λ rest. first ∷ rest) zs (λ rest reads. (time_read unit Down at element first read, times_read unit at others rest reads)) is) is

edges_read : (at : ℕ) (zs : List ℤ) (w : Waveform) → AreReadTimes zs → two_edges at zs ≡ Ok w → AreReadEdges w
edges_read at [] w reads is = (let no : ⊥ = cc in absurd no)
edges_read at (x ∷ []) w reads is = (let no : ⊥ = cc in absurd no)
edges_read at (x ∷ y ∷ []) w reads is = answered AreReadEdges (record { rise = x; fall = y }) w (reads.0, reads.1.0) is
edges_read at (x ∷ y ∷ z ∷ zs) w reads is = (let no : ⊥ = cc in absurd no)

listed_read : (unit : TimeUnit) (o : Opened) (text : List ℕ) (bare : Bool) (zs : List ℤ) → ◌≡◌ {A = Answer (List ℤ)} (if bare then Err (Syntax o.word.at) else times (in_ps unit) o.word.at (elements o.word.kind text)) (Ok zs) → AreReadTimes zs
listed_read unit o text true zs is = (let no : ⊥ = cc in absurd no)
listed_read unit o text false zs is = times_read (in_ps unit) o.word.at (elements o.word.kind text) zs is

waveform_read : (unit : TimeUnit) (o : Opened) (w : Waveform) → waveform unit o ≡ Ok w → AreReadEdges w
unfolding waveform
waveform_read unit o w is =
    behind AreReadEdges (whole o) (λ text. listed_times unit o text >>= λ edges. two_edges o.word.at edges) w
    (λ text read w is. behind AreReadEdges (listed_times unit o text) (λ edges. two_edges o.word.at edges) w (λ edges listed w is. edges_read o.word.at edges w (listed_read unit o text (is_bare o.word.kind) edges listed) is) is) is

-- the word of an option, and a value
option_read : (s : Setting) (given : Given) (option : SdcOption) (o : Opened) (more : Given) → IsReadGiven given → option_word s given option o ≡ Ok more → IsReadGiven more
unfolding option_word
option_read s given Time o more r is = gave IsReadGiven (unit_word o) (λ x. record given { unit = Some x }) more (λ x read. record { amount = r.amount; count = r.count; period = r.period; waveform = r.waveform }) is
option_read s given Period o more r is = gave IsReadGiven (time_word s.unit Down o) (λ x. record given { period = Some x }) more (λ x read. record { amount = r.amount; count = r.count; period = time_word_read s.unit Down o x read; waveform = r.waveform }) is
option_read s given Name o more r is = gave IsReadGiven (clock_name_word o) (λ x. record given { name = Some x }) more (λ x read. record { amount = r.amount; count = r.count; period = r.period; waveform = r.waveform }) is
option_read s given WaveformOption o more r is = gave IsReadGiven (waveform s.unit o) (λ x. record given { waveform = Some x }) more (λ x read. record { amount = r.amount; count = r.count; period = r.period; waveform = waveform_read s.unit o x read }) is
option_read s given Clock o more r is = gave IsReadGiven (clock o) (λ x. record given { clock = Some x }) more (λ x read. record { amount = r.amount; count = r.count; period = r.period; waveform = r.waveform }) is
option_read s given From o more r is = gave IsReadGiven (object_word false true o) (λ x. record given { from = Some x }) more (λ x read. record { amount = r.amount; count = r.count; period = r.period; waveform = r.waveform }) is
option_read s given Through o more r is = gave IsReadGiven (group_word o) (λ x. record given { through = given.through ++ x ∷ [] }) more (λ x read. record { amount = r.amount; count = r.count; period = r.period; waveform = r.waveform }) is
option_read s given To o more r is = gave IsReadGiven (object_word false true o) (λ x. record given { to = Some x }) more (λ x read. record { amount = r.amount; count = r.count; period = r.period; waveform = r.waveform }) is
option_read s given Resistance o more r is = gave IsReadGiven (any o) (λ x. given) more (λ x read. r) is
option_read s given Capacitance o more r is = gave IsReadGiven (any o) (λ x. given) more (λ x read. r) is
option_read s given Current o more r is = gave IsReadGiven (any o) (λ x. given) more (λ x read. r) is
option_read s given Voltage o more r is = gave IsReadGiven (any o) (λ x. given) more (λ x read. r) is
option_read s given Power o more r is = gave IsReadGiven (any o) (λ x. given) more (λ x read. r) is
option_read s given Comment o more r is = gave IsReadGiven (any o) (λ x. given) more (λ x read. r) is
option_read s given ClockFall o more r is = gave IsReadGiven (any o) (λ x. given) more (λ x read. r) is
option_read s given Max o more r is = gave IsReadGiven (any o) (λ x. given) more (λ x read. r) is
option_read s given Min o more r is = gave IsReadGiven (any o) (λ x. given) more (λ x read. r) is
option_read s given AddDelay o more r is = gave IsReadGiven (any o) (λ x. given) more (λ x read. r) is
option_read s given Setup o more r is = gave IsReadGiven (any o) (λ x. given) more (λ x read. r) is
option_read s given Hold o more r is = gave IsReadGiven (any o) (λ x. given) more (λ x read. r) is
option_read s given Start o more r is = gave IsReadGiven (any o) (λ x. given) more (λ x read. r) is
option_read s given End o more r is = gave IsReadGiven (any o) (λ x. given) more (λ x read. r) is

slot_read : (s : Setting) (given : Given) (place : Option Slot) (o : Opened) (more : Given) → IsReadGiven given → slot_word s given place o ≡ Ok more → IsReadGiven more
slot_read s given None o more r is = (let no : ⊥ = cc in absurd no)
slot_read s given (Some (slot.Time round)) o more r is = gave IsReadGiven (time_word s.unit round o) (λ x. record given { amount = Some x }) more (λ x read. record { amount = time_word_read s.unit round o x read; count = r.count; period = r.period; waveform = r.waveform }) is
slot_read s given (Some slot.Count) o more r is = gave IsReadGiven (count_word o) (λ x. record given { count = Some x }) more (λ x read. record { amount = r.amount; count = count_word_read o x read; period = r.period; waveform = r.waveform }) is
slot_read s given (Some slot.Sources) o more r is = gave IsReadGiven (object_word true s.named o) (λ x. record given { objects = Some x }) more (λ x read. record { amount = r.amount; count = r.count; period = r.period; waveform = r.waveform }) is
slot_read s given (Some slot.Ports) o more r is = gave IsReadGiven (object_word true true o) (λ x. record given { objects = Some x }) more (λ x read. record { amount = r.amount; count = r.count; period = r.period; waveform = r.waveform }) is
slot_read s given (Some slot.Name) o more r is = gave IsReadGiven (whole o) (λ x. record given { name = Some x }) more (λ x read. record { amount = r.amount; count = r.count; period = r.period; waveform = r.waveform }) is
slot_read s given (Some slot.Version) o more r is = gave IsReadGiven (any o) (λ x. record given { version = true }) more (λ x read. record { amount = r.amount; count = r.count; period = r.period; waveform = r.waveform }) is

value_read : (s : Setting) (given : Given) (o : Opened) (more : Given) → IsReadGiven given → value s given o ≡ Ok more → IsReadGiven more
unfolding value
value_read s given o more r is = slot_read s given (slot_of s.kind given) o more r is

abbrev AreCollected : Collected → Type 0
AreCollected c = IsReadGiven c.given

begun_for : (refused : Bool) (at : ℕ) (c last : Collected) → AreCollected c → ◌≡◌ {A = Answer Collected} (if refused then Err (Syntax at) else Ok c) (Ok last) → AreCollected last
begun_for true at c last r is = (let no : ⊥ = cc in absurd no)
begun_for false at c last r is = answered AreCollected c last r is

begun_read : (given : Given) (o : Opened) (found : Option SdcOption) (last : Collected) → IsReadGiven given → begun_option given o found ≡ Ok last → AreCollected last
begun_read given o None last r is = (let no : ⊥ = cc in absurd no)
begun_read given o (Some found) last r is =
    begun_for (has given.seen found || excludes given.seen found) o.word.at (record { given = record given { seen = with_option found given.seen }; awaits = if takes_word found then Some found else None }) last
    (record { amount = r.amount; count = r.count; period = r.period; waveform = r.waveform }) is

option_step : (s : Setting) (given : Given) (o : Opened) (last : Collected) → IsReadGiven given → option s given o ≡ Ok last → AreCollected last
unfolding option
option_step s given o last r is = begun_read given o (option_of s.kind o.word.text) last r is

step_for : (s : Setting) (given : Given) (o : Opened) (optional : Bool) (last : Collected) → IsReadGiven given → (if optional then option s given o else (value s given o >>= λ more. Ok (complete more))) ≡ Ok last → AreCollected last
step_for s given o true last r is = option_step s given o last r is
step_for s given o false last r is = gave AreCollected (value s given o) complete last (λ more read. value_read s given o more r read) is

step_by : (s : Setting) (given : Given) (awaits : Option SdcOption) (o : Opened) (last : Collected) → IsReadGiven given → collected_by s given awaits o ≡ Ok last → AreCollected last
step_by s given (Some awaited) o last r is = gave AreCollected (option_word s given awaited o) complete last (λ more read. option_read s given awaited o more r read) is
step_by s given None o last r is = step_for s given o (is_option o.word) last r is

step_read : (s : Setting) (before : Collected) (o : Opened) (last : Collected) → AreCollected before → collected s before o ≡ Ok last → AreCollected last
unfolding collected
step_read s before o last r is = step_by s before.given before.awaits o last r is

all_read : (s : Setting) (before : Collected) (os : List Opened) (last : Collected) → AreCollected before → collected_all s before os ≡ Ok last → AreCollected last
unfolding collected_all
all_read s before [] last r is = answered AreCollected before last r is
all_read s before (o ∷ os) last r is = behind AreCollected (collected s before o) (λ more. collected_all s more os) last (λ more read last is. all_read s more os last (step_read s before o more r read) is) is

-- what a line says
abbrev IsReadLine : Line → Type 0
IsReadLine does.Nothing = Unit {0}
IsReadLine (does.Unit unit) = Unit {0}
IsReadLine (does.Design name) = Unit {0}
IsReadLine (does.Timing command) = IsReadCommand command

needed_read : {X : Type 0} (P : X → Type 0) (at : ℕ) (given : Option X) (x : X) → IfThere P given → needed at given ≡ Ok x → P x
needed_read P at None x holds is = (let no : ⊥ = cc in absurd no)
needed_read P at (Some y) x holds is = answered P y x holds is

half_read : (n : ℤ) → IsReadTime n → IsReadTime (half n)
half_read (pos n) r = (let high : pos n ≤ℤ pos 1000000000 = r.high in record { low = grind (arith, ints); high = grind (arith, ints) })
half_read (negsuc n) r = (let low : negsuc 999999999 ≤ℤ negsuc n = r.low in record { low = grind (arith, ints); high = grind (arith, ints) })

edges_of_read : (period : ℤ) (given : Option Waveform) → IsReadTime period → IfThere AreReadEdges given → AreReadEdges (edges_of period given)
edges_of_read period None r holds = (record { low = grind (arith, ints); high = grind (arith, ints) }, half_read period r)
edges_of_read period (Some w) r holds = holds

clock_read : (at : ℕ) (given : Given) (l : Line) → IsReadGiven given → clock_line at given ≡ Ok l → IsReadLine l
unfolding clock_line
clock_read at given l r is =
    behind IsReadLine (needed at given.period) (λ period. needed at (either given.name (first_name (objects_of given.objects))) >>= λ name. Ok (does.Timing (timing.Clock name period (edges_of period given.waveform).rise (edges_of period given.waveform).fall (objects_of given.objects)))) l
    (λ period read l is. (let low = needed_read IsReadTime at given.period period r.period read in let edges = edges_of_read period given.waveform low r.waveform in
    gave IsReadLine (needed at (either given.name (first_name (objects_of given.objects)))) (λ name. does.Timing (timing.Clock name period (edges_of period given.waveform).rise (edges_of period given.waveform).fall (objects_of given.objects))) l (λ name named. (low, edges.0, edges.1)) is)) is

input_read : (at : ℕ) (given : Given) (l : Line) → IsReadGiven given → input_delay_line at given ≡ Ok l → IsReadLine l
unfolding input_delay_line
input_read at given l r is =
    behind IsReadLine (needed at given.amount) (λ amount. needed at given.clock >>= λ clock. (needed at given.objects >>= λ ports. Ok (does.Timing (timing.InputDelay amount clock (edge_of given.seen.clock_fall) (is_setup given.seen.min given.seen.max) given.seen.add_delay ports)))) l
    (λ amount read l is. behind IsReadLine (needed at given.clock) (λ clock. needed at given.objects >>= λ ports. Ok (does.Timing (timing.InputDelay amount clock (edge_of given.seen.clock_fall) (is_setup given.seen.min given.seen.max) given.seen.add_delay ports))) l
    (λ clock named l is. gave IsReadLine (needed at given.objects) (λ ports. does.Timing (timing.InputDelay amount clock (edge_of given.seen.clock_fall) (is_setup given.seen.min given.seen.max) given.seen.add_delay ports)) l (λ ports given_ports. needed_read IsReadTime at given.amount amount r.amount read) is) is) is

output_read : (at : ℕ) (given : Given) (l : Line) → IsReadGiven given → output_delay_line at given ≡ Ok l → IsReadLine l
unfolding output_delay_line
output_read at given l r is =
    behind IsReadLine (needed at given.amount) (λ amount. needed at given.clock >>= λ clock. (needed at given.objects >>= λ ports. Ok (does.Timing (timing.OutputDelay amount clock (edge_of given.seen.clock_fall) (is_setup given.seen.min given.seen.max) given.seen.add_delay ports)))) l
    (λ amount read l is. behind IsReadLine (needed at given.clock) (λ clock. needed at given.objects >>= λ ports. Ok (does.Timing (timing.OutputDelay amount clock (edge_of given.seen.clock_fall) (is_setup given.seen.min given.seen.max) given.seen.add_delay ports))) l
    (λ clock named l is. gave IsReadLine (needed at given.objects) (λ ports. does.Timing (timing.OutputDelay amount clock (edge_of given.seen.clock_fall) (is_setup given.seen.min given.seen.max) given.seen.add_delay ports)) l (λ ports given_ports. needed_read IsReadTime at given.amount amount r.amount read) is) is) is

false_read : (at : ℕ) (given : Given) (l : Line) → IsReadGiven given → false_path_line at given ≡ Ok l → IsReadLine l
unfolding false_path_line
false_read at given l r is = gave IsReadLine (has_part at given) (λ done. does.Timing (timing.FalsePath (is_setup given.seen.hold given.seen.setup) given.from given.through given.to)) l (λ done stands. tt) is

multicycle_read : (at : ℕ) (given : Given) (l : Line) → IsReadGiven given → multicycle_line at given ≡ Ok l → IsReadLine l
unfolding multicycle_line
multicycle_read at given l r is =
    behind IsReadLine (needed at given.count) (λ n. has_part at given >>= λ done. Ok (does.Timing (timing.Multicycle n (is_setup given.seen.hold given.seen.setup) given.seen.start given.from given.through given.to))) l
    (λ n read l is. gave IsReadLine (has_part at given) (λ done. does.Timing (timing.Multicycle n (is_setup given.seen.hold given.seen.setup) given.seen.start given.from given.through given.to)) l (λ done stands. needed_read IsReadCount at given.count n r.count read) is) is

max_read : (at : ℕ) (given : Given) (l : Line) → IsReadGiven given → max_delay_line at given ≡ Ok l → IsReadLine l
unfolding max_delay_line
max_read at given l r is =
    behind IsReadLine (needed at given.amount) (λ amount. has_part at given >>= λ done. Ok (does.Timing (timing.MaxDelay amount given.from given.through given.to))) l
    (λ amount read l is. gave IsReadLine (has_part at given) (λ done. does.Timing (timing.MaxDelay amount given.from given.through given.to)) l (λ done stands. needed_read IsReadTime at given.amount amount r.amount read) is) is

version_read : (at : ℕ) (there : Bool) (l : Line) → ◌≡◌ {A = Answer Line} (if there then Ok does.Nothing else Err (Syntax at)) (Ok l) → IsReadLine l
version_read at true l is = answered IsReadLine does.Nothing l tt is
version_read at false l is = (let no : ⊥ = cc in absurd no)

unit_read : (unit : Option TimeUnit) → IsReadLine (unit_line unit)
unit_read None = tt
unit_read (Some unit) = tt

line_read : (kind : CommandKind) (at : ℕ) (given : Given) (l : Line) → IsReadGiven given → line kind at given ≡ Ok l → IsReadLine l
unfolding line
line_read Version at given l r is = version_read at given.version l is
line_read Units at given l r is = answered IsReadLine (unit_line given.unit) l (unit_read given.unit) is
line_read Design at given l r is = gave IsReadLine (needed at given.name) (λ name. does.Design name) l (λ name read. tt) is
line_read CreateClock at given l r is = clock_read at given l r is
line_read InputDelay at given l r is = input_read at given l r is
line_read OutputDelay at given l r is = output_read at given l r is
line_read FalsePath at given l r is = false_read at given l r is
line_read Multicycle at given l r is = multicycle_read at given l r is
line_read MaxDelay at given l r is = max_read at given l r is

obeyed_read : (unit : TimeUnit) (kind : CommandKind) (name : Word) (os : List Opened) (l : Line) → obeyed unit kind name os ≡ Ok l → IsReadLine l
unfolding obeyed
obeyed_read unit kind name os l is =
    behind IsReadLine (behind_name kind name os)
    (λ words. collected_all (record { unit = unit; kind = kind; named = is_named kind false words }) (complete nothing_given) words >>= λ last. (nothing_awaited name.at last.awaits >>= λ done. line kind name.at last.given)) l
    (λ words stands l is. behind IsReadLine (collected_all (record { unit = unit; kind = kind; named = is_named kind false words }) (complete nothing_given) words) (λ last. nothing_awaited name.at last.awaits >>= λ done. line kind name.at last.given) l
    (λ last read l is. (let given = all_read (record { unit = unit; kind = kind; named = is_named kind false words }) (complete nothing_given) words last (record { amount = tt; count = tt; period = tt; waveform = tt }) read in
    behind IsReadLine (nothing_awaited name.at last.awaits) (λ done. line kind name.at last.given) l (λ done none l is. line_read kind name.at last.given l given is) is)) is) is

command_read : (unit : TimeUnit) (os : List Opened) (l : Line) → command unit os ≡ Ok l → IsReadLine l
unfolding command
command_read unit [] l is = answered IsReadLine does.Nothing l tt is
command_read unit (name ∷ words) l is = behind IsReadLine (kind_word name) (λ kind. obeyed unit kind name.word words) l (λ kind named l is. obeyed_read unit kind name.word words l is) is

abbrev IsReadFile : SdcFile → Type 0
IsReadFile f = All IsReadCommand f.commands

with_line_read : (l : Line) (f : SdcFile) → IsReadLine l → IsReadFile f → IsReadFile (with_line l f)
with_line_read does.Nothing f reads rest = rest
with_line_read (does.Unit unit) f reads rest = rest
with_line_read (does.Design name) f reads rest = rest
with_line_read (does.Timing c) f reads rest = All-cons IsReadCommand c f.commands reads rest

file_read : (unit : TimeUnit) (words : List (List Opened)) (f : SdcFile) → file unit words ≡ Ok f → IsReadFile f
unfolding file
file_read unit [] f is = answered IsReadFile (record { design = None; commands = [] }) f (All-nil IsReadCommand) is
file_read unit (words ∷ others) f is =
    behind IsReadFile (command unit words) (λ l. file (unit_after unit l) others >>= λ rest. Ok (with_line l rest)) f
    (λ l read f is. gave IsReadFile (file (unit_after unit l) others) (λ rest. with_line l rest) f (λ rest reads. with_line_read l rest (command_read unit words l read) (file_read (unit_after unit l) others rest reads)) is) is

timing_read : (l : Line) (c : SdcCommand) → IsReadLine l → timing_of l ≡ Ok c → IsReadCommand c
timing_read does.Nothing c r is = (let no : ⊥ = cc in absurd no)
timing_read (does.Unit unit) c r is = (let no : ⊥ = cc in absurd no)
timing_read (does.Design name) c r is = (let no : ⊥ = cc in absurd no)
timing_read (does.Timing command) c r is = answered IsReadCommand command c r is

single_read : (os : List Opened) (c : SdcCommand) → single os ≡ Ok c → IsReadCommand c
unfolding single
single_read [] c is = (let no : ⊥ = cc in absurd no)
single_read (name ∷ words) c is =
    behind IsReadCommand (kind_word name) (λ kind. timing_kind name.word kind >>= λ done. (obeyed Nanoseconds kind name.word words >>= λ line. timing_of line)) c
    (λ kind named c is. behind IsReadCommand (timing_kind name.word kind) (λ done. obeyed Nanoseconds kind name.word words >>= λ line. timing_of line) c
    (λ done timely c is. behind IsReadCommand (obeyed Nanoseconds kind name.word words) (λ line. timing_of line) c (λ line read c is. timing_read line c (obeyed_read Nanoseconds kind name.word words line read) is) is) is) is

-- the commands of a text that reads
pub ranges_of : (text : List ℕ) (result : Result SdcFile SdcFault) → IsReadAnswer text result → IfOk result (λ f. All IsReadCommand f.commands)
ranges_of text (Ok f) is = file_read Nanoseconds (map opened is.forests) f is.says
ranges_of text (Err fault) is = tt

-- and the one command of a text
pub range_of : (text : List ℕ) (result : Result SdcCommand SdcFault) → IsCommandAnswer text result → IfOk result IsReadCommand
range_of text (Ok c) is = behind IsReadCommand (single (opened is.forest)) (λ command. none_more is.others >>= λ done. Ok command) c (λ command read c says. gave IsReadCommand (none_more is.others) (λ done. command) c (λ done none. single_read (opened is.forest) command read) says) is.says
range_of text (Err fault) is = tt
