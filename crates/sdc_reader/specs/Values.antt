-- What a word gives in its place: a text, a time, objects, a clock.
use Rattle.std.specs.Prelude.{ℕ, ◌||◌, ℤ, Bool, true, false, Option, Some, None, List, [], ◌∷◌, map, Ok, Err, codes, if◌then◌else◌}
use Rattle.std.specs.Str.{bytes_eq}
use Rattle.text_scan.specs.declared.decimals.Round.{Round}
use Rattle.text_scan.specs.declared.decimals.Round.TheVariants.{Down}
use Rattle.tcl_words.specs.declared.words.Word.{Word}
use Rattle.tcl_words.specs.Lists.{elements}
use Rattle.bud_syntax.specs.declared.constraints.Object.{Object}
use Rattle.bud_syntax.specs.declared.constraints.Object.TheVariants as object
use Rattle.sdc_reader.specs.declared.faults.SdcFault.{SdcFault}
use Rattle.sdc_reader.specs.declared.faults.SdcFault.TheVariants.{Syntax, Value}
use Rattle.sdc_reader.specs.declared.opened.Found.{Found}
use Rattle.sdc_reader.specs.declared.opened.Finds.{Finds}
use Rattle.sdc_reader.specs.declared.opened.NameKind.{NameKind}
use Rattle.sdc_reader.specs.declared.opened.NameKind.TheVariants.{Ports, Pins, Cells, Clocks, Any}
use Rattle.sdc_reader.specs.declared.opened.ObjectCommand.{ObjectCommand}
use Rattle.sdc_reader.specs.declared.opened.ObjectCommand.TheVariants.{Get, AllInputs, AllOutputs, AllClocks, List as ListOf}
use Rattle.sdc_reader.specs.declared.opened.Inside.{Inside}
use Rattle.sdc_reader.specs.declared.opened.Inside.TheVariants.{Empty, Refused, Command}
use Rattle.sdc_reader.specs.declared.opened.Opened.{Opened}
use Rattle.sdc_reader.specs.declared.given.TimeUnit.{TimeUnit}
use Rattle.sdc_reader.specs.declared.given.TimeUnit.TheVariants.{Nanoseconds, Picoseconds}
use Rattle.sdc_reader.specs.declared.given.Waveform.{Waveform}
use Rattle.sdc_reader.specs.Answers.{Answer, ◌>>=◌}
use Rattle.sdc_reader.specs.Words.{is_bare, is_clock_name, names_in}
use Rattle.sdc_reader.specs.Numbers.{time, count}
use Rattle.sdc_reader.specs.Brackets.{found_in, all_of}

-- brackets that begin at this offset stand where none may
abbrev pub misplaced_inside : ℕ → Inside → SdcFault
misplaced_inside at Empty = Syntax at
misplaced_inside at (Refused fault) = fault
misplaced_inside at (Command _ _ _ _) = Syntax at

abbrev pub outside : Word → Option Inside → Answer (List ℕ)
outside w None = Ok w.text
outside w (Some inside) = Err (misplaced_inside w.at inside)

-- a word that isn't in brackets: its whole text
unfoldable pub whole : Opened → Answer (List ℕ)
whole o = outside o.word o.inside

abbrev pub surplus_at : ℕ → Option Inside → SdcFault
surplus_at at None = Syntax at
surplus_at at (Some inside) = misplaced_inside at inside

-- a word that is one too many
abbrev pub surplus_word : Opened → SdcFault
surplus_word o = surplus_at o.word.at o.inside

abbrev pub finds_inside : Word → Option Inside → Answer Finds
finds_inside w None = Ok (all_of (found_in Any w))
finds_inside w (Some Empty) = Err (Syntax w.at)
finds_inside w (Some (Refused fault)) = Err fault
finds_inside w (Some (Command _ _ _ finds)) = Ok finds

-- what a word of objects finds, up to the first refusal
unfoldable pub finds_of : Opened → Answer Finds
finds_of o = finds_inside o.word o.inside

abbrev pub unrefused : Option SdcFault → Answer (Unit {0})
unrefused None = Ok tt
unrefused (Some fault) = Err fault

-- a bare name is a port where sources or ports stand
abbrev pub as_port : Object → Object
as_port (object.Ports name) = object.Ports name
as_port (object.Pins name) = object.Pins name
as_port (object.Cells name) = object.Cells name
as_port (object.Clocks name) = object.Clocks name
as_port (object.Any name) = object.Ports name
as_port object.AllInputs = object.AllInputs
as_port object.AllOutputs = object.AllOutputs
as_port object.AllClocks = object.AllClocks

abbrev pub taken : Bool → Found → Object
taken ports f = if ports then as_port f.object else f.object

-- all objects that were found, unless a word was refused
unfoldable pub objects : Bool → Finds → Answer (List Object)
objects ports finds = do
  done ← unrefused finds.refusal
  Ok (map (taken ports) finds.found)

-- the text that an object's word or list element stands for
abbrev pub name_in : Object → Option (List ℕ)
name_in (object.Ports name) = Some name
name_in (object.Pins name) = Some name
name_in (object.Cells name) = Some name
name_in (object.Clocks name) = Some name
name_in (object.Any name) = Some name
name_in object.AllInputs = None
name_in object.AllOutputs = None
name_in object.AllClocks = None

-- a name that a clock may have
unfoldable pub clock_name : ℕ → List ℕ → Answer (List ℕ)
clock_name at name = if is_clock_name name then Ok name else Err (Value at)

abbrev pub may_name : ℕ → Option (List ℕ) → Answer (Unit {0})
may_name at None = Ok tt
may_name at (Some name) = if is_clock_name name then Ok tt else Err (Value at)

-- where the clock has its name from its first source, that may be its name
abbrev pub names_clock : Bool → List Found → Answer (Unit {0})
names_clock true found = Ok tt
names_clock false [] = Ok tt
names_clock false (first ∷ _) = may_name first.at (name_in first.object)

-- all objects that were found, unless the first may not name the clock, where it has to, or a word was refused
unfoldable pub named_objects : Bool → Bool → Finds → Answer (List Object)
named_objects ports named finds = do
  done ← names_clock named finds.found
  objects ports finds

-- a word of objects; where `ports`, a bare name is a port; `named` says that the objects name no clock
unfoldable pub object_word : Bool → Bool → Opened → Answer (List Object)
object_word ports named o = do
  finds ← finds_of o
  named_objects ports named finds

abbrev pub some_of : ℕ → List Object → Answer (List Object)
some_of at [] = Err (Syntax at)
some_of at (object ∷ objects) = Ok (object ∷ objects)

-- the objects of a through group, at least one
unfoldable pub group_word : Opened → Answer (List Object)
group_word o = object_word false true o >>= λ objects. some_of o.word.at objects

abbrev pub any_inside : ℕ → Option Inside → Answer (Unit {0})
any_inside at None = Ok tt
any_inside at (Some Empty) = Err (Syntax at)
any_inside at (Some (Refused fault)) = Err fault
any_inside at (Some (Command _ _ _ finds)) = unrefused finds.refusal

-- any word; in brackets stands an object command
unfoldable pub any : Opened → Answer (Unit {0})
any o = any_inside o.word.at o.inside

abbrev pub one_of : ℕ → List (List ℕ) → Answer (List ℕ)
one_of at [] = Err (Syntax at)
one_of at (name ∷ []) = Ok name
one_of at (_ ∷ _ ∷ _) = Err (Syntax at)

abbrev pub gets_clocks : NameKind → Bool
gets_clocks Ports = false
gets_clocks Pins = false
gets_clocks Cells = false
gets_clocks Clocks = true
gets_clocks Any = false

abbrev pub is_get_clocks : ObjectCommand → Bool
is_get_clocks (Get kind) = gets_clocks kind
is_get_clocks AllInputs = false
is_get_clocks AllOutputs = false
is_get_clocks AllClocks = false
is_get_clocks ListOf = false

abbrev pub named_one : ℕ → Option (List ℕ) → Answer (List ℕ)
named_one at None = Err (Syntax at)
named_one at (Some name) = Ok name

-- one name; `at` is where the word of names begins
abbrev pub one_found : ℕ → List Found → Answer (List ℕ)
one_found at [] = Err (Syntax at)
one_found at (f ∷ []) = named_one at (name_in f.object)
one_found at (_ ∷ _ ∷ _) = Err (Syntax at)

-- the one name that `get_clocks` finds; its own name begins at the first offset, its word of names at the second
abbrev pub clock_found : ℕ → Option ℕ → Finds → Answer (List ℕ)
clock_found at None finds = unrefused finds.refusal >>= λ done. Err (Syntax at)
clock_found at (Some place) finds = do
  name ← one_found place finds.found
  done ← unrefused finds.refusal
  Ok name

abbrev pub clock_inside : Word → Option Inside → Answer (List ℕ)
clock_inside w None = one_of w.at (names_in w)
clock_inside w (Some Empty) = Err (Syntax w.at)
clock_inside w (Some (Refused fault)) = Err fault
clock_inside w (Some (Command command at place finds)) = if is_get_clocks command then clock_found at place finds else Err (Syntax at)

-- one name, or `get_clocks` with one name
unfoldable pub clock : Opened → Answer (List ℕ)
clock o = clock_inside o.word o.inside

abbrev pub in_ps : TimeUnit → ℕ
in_ps Nanoseconds = 1000
in_ps Picoseconds = 1

-- a time
unfoldable pub time_word : TimeUnit → Round → Opened → Answer ℤ
time_word unit round o = do
  text ← whole o
  time (in_ps unit) round o.word.at text

-- a count
unfoldable pub count_word : Opened → Answer ℕ
count_word o = do
  text ← whole o
  count o.word.at text

-- the name of a clock
unfoldable pub clock_name_word : Opened → Answer (List ℕ)
clock_name_word o = do
  text ← whole o
  clock_name o.word.at text

-- each a time, from left to right
unfoldable pub times : ℕ → ℕ → List (List ℕ) → Answer (List ℤ)
times unit at [] = Ok []
times unit at (element ∷ others) = do
  first ← time unit Down at element
  rest ← times unit at others
  Ok (first ∷ rest)

abbrev pub two_edges : ℕ → List ℤ → Answer Waveform
two_edges at [] = Err (Syntax at)
two_edges at (_ ∷ []) = Err (Syntax at)
two_edges at (rise ∷ fall ∷ []) = Ok (record { rise = rise; fall = fall })
two_edges at (_ ∷ _ ∷ _ ∷ _) = Err (Syntax at)

-- the times of a list in braces or quotes
abbrev pub listed_times : TimeUnit → Opened → List ℕ → Answer (List ℤ)
listed_times unit o text = if is_bare o.word.kind then Err (Syntax o.word.at) else times (in_ps unit) o.word.at (elements o.word.kind text)

-- a list of two times
unfoldable pub waveform : TimeUnit → Opened → Answer Waveform
waveform unit o = do
  text ← whole o
  edges ← listed_times unit o text
  two_edges o.word.at edges

abbrev pub unit_named : List ℕ → Option TimeUnit
unit_named name =
    if bytes_eq name (codes "ns") || bytes_eq name (codes "1ns") then Some Nanoseconds
    else (if bytes_eq name (codes "ps") || bytes_eq name (codes "1ps") then Some Picoseconds else None)

abbrev pub known_unit : ℕ → Option TimeUnit → Answer TimeUnit
known_unit at None = Err (Syntax at)
known_unit at (Some unit) = Ok unit

-- a unit of times
unfoldable pub unit_word : Opened → Answer TimeUnit
unit_word o = do
  text ← whole o
  known_unit o.word.at (unit_named text)
