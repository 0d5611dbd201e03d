-- What the words of a command give, from left to right.
use Rattle.std.specs.Prelude.{◌||◌, ◌&&◌, not, Bool, true, false, Option, Some, None, is_none, List, [], ◌∷◌, ◌++◌, Ok, Err, codes, if◌then◌else◌}
use Rattle.std.specs.Str.{bytes_eq}
use Rattle.text_scan.specs.declared.decimals.Round.TheVariants.{Up, Down}
use Rattle.sdc_reader.specs.declared.faults.SdcFault.TheVariants.{Syntax, UnknownOption}
use Rattle.sdc_reader.specs.declared.opened.Opened.{Opened}
use Rattle.sdc_reader.specs.declared.options.CommandKind.{CommandKind}
use Rattle.sdc_reader.specs.declared.options.CommandKind.TheVariants.{Version, Units, Design, CreateClock, InputDelay, OutputDelay, FalsePath, Multicycle, MaxDelay}
use Rattle.sdc_reader.specs.declared.options.SdcOption.{SdcOption}
use Rattle.sdc_reader.specs.declared.options.SdcOption.TheVariants.{Time, Resistance, Capacitance, Current, Voltage, Power, Period, Name, Waveform, Comment, Clock, ClockFall, Max, Min, AddDelay, Setup, Hold, Start, End, From, Through, To}
use Rattle.sdc_reader.specs.declared.given.Setting.{Setting}
use Rattle.sdc_reader.specs.declared.given.Given.{Given}
use Rattle.sdc_reader.specs.declared.given.Collected.{Collected}
use Rattle.sdc_reader.specs.declared.given.Slot.{Slot}
use Rattle.sdc_reader.specs.declared.given.Slot.TheVariants as slot
use Rattle.sdc_reader.specs.Answers.{Answer, ◌>>=◌}
use Rattle.sdc_reader.specs.Words.{is_option}
use Rattle.sdc_reader.specs.Options.{option_of, takes_word, has, excludes, with_option, none_seen}
use Rattle.sdc_reader.specs.Values.{whole, surplus_word, object_word, group_word, any, clock, time_word, count_word, clock_name_word, waveform, unit_word}

-- nothing yet
abbrev pub nothing_given : Given
nothing_given = record {
  seen = none_seen;
  version = false;
  unit = None;
  amount = None;
  count = None;
  name = None;
  period = None;
  waveform = None;
  clock = None;
  objects = None;
  from = None;
  through = [];
  to = None;
}

-- the word of an option
unfoldable pub option_word : Setting → Given → SdcOption → Opened → Answer Given
option_word s given Time o = unit_word o >>= λ x. Ok (record given { unit = Some x })
option_word s given Period o = time_word s.unit Down o >>= λ x. Ok (record given { period = Some x })
option_word s given Name o = clock_name_word o >>= λ x. Ok (record given { name = Some x })
option_word s given Waveform o = waveform s.unit o >>= λ x. Ok (record given { waveform = Some x })
option_word s given Clock o = clock o >>= λ x. Ok (record given { clock = Some x })
option_word s given From o = object_word false true o >>= λ x. Ok (record given { from = Some x })
option_word s given Through o = group_word o >>= λ x. Ok (record given { through = given.through ++ x ∷ [] })
option_word s given To o = object_word false true o >>= λ x. Ok (record given { to = Some x })
option_word s given Resistance o = any o >>= λ done. Ok given
option_word s given Capacitance o = any o >>= λ done. Ok given
option_word s given Current o = any o >>= λ done. Ok given
option_word s given Voltage o = any o >>= λ done. Ok given
option_word s given Power o = any o >>= λ done. Ok given
option_word s given Comment o = any o >>= λ done. Ok given
option_word s given ClockFall o = any o >>= λ done. Ok given
option_word s given Max o = any o >>= λ done. Ok given
option_word s given Min o = any o >>= λ done. Ok given
option_word s given AddDelay o = any o >>= λ done. Ok given
option_word s given Setup o = any o >>= λ done. Ok given
option_word s given Hold o = any o >>= λ done. Ok given
option_word s given Start o = any o >>= λ done. Ok given
option_word s given End o = any o >>= λ done. Ok given

-- what a word that is no option and belongs to none is to be, by the values that there are
abbrev pub slot_of : CommandKind → Given → Option Slot
slot_of Version given = if given.version then None else Some slot.Version
slot_of Units given = None
slot_of Design given = if is_none given.name then Some slot.Name else None
slot_of CreateClock given = if is_none given.objects then Some slot.Sources else None
slot_of InputDelay given = if is_none given.amount then Some (slot.Time Up) else (if is_none given.objects then Some slot.Ports else None)
slot_of OutputDelay given = if is_none given.amount then Some (slot.Time Up) else (if is_none given.objects then Some slot.Ports else None)
slot_of FalsePath given = None
slot_of Multicycle given = if is_none given.count then Some slot.Count else None
slot_of MaxDelay given = if is_none given.amount then Some (slot.Time Down) else None

abbrev pub slot_word : Setting → Given → Option Slot → Opened → Answer Given
slot_word s given None o = Err (surplus_word o)
slot_word s given (Some (slot.Time round)) o = time_word s.unit round o >>= λ x. Ok (record given { amount = Some x })
slot_word s given (Some slot.Count) o = count_word o >>= λ x. Ok (record given { count = Some x })
slot_word s given (Some slot.Sources) o = object_word true s.named o >>= λ x. Ok (record given { objects = Some x })
slot_word s given (Some slot.Ports) o = object_word true true o >>= λ x. Ok (record given { objects = Some x })
slot_word s given (Some slot.Name) o = whole o >>= λ x. Ok (record given { name = Some x })
slot_word s given (Some slot.Version) o = any o >>= λ done. Ok (record given { version = true })

-- a word that is no option and belongs to none
unfoldable pub value : Setting → Given → Opened → Answer Given
value s given o = slot_word s given (slot_of s.kind given) o

abbrev pub complete : Given → Collected
complete given = record { given = given; awaits = None }

abbrev pub begun_option : Given → Opened → Option SdcOption → Answer Collected
begun_option given o None = Err (UnknownOption o.word.text o.word.at)
begun_option given o (Some option) =
    if has given.seen option || excludes given.seen option
    then Err (Syntax o.word.at)
    else Ok (record {
      given = record given { seen = with_option option given.seen };
      awaits = if takes_word option then Some option else None;
    })

-- a word that is an option
unfoldable pub option : Setting → Given → Opened → Answer Collected
option s given o = begun_option given o (option_of s.kind o.word.text)

abbrev pub collected_by : Setting → Given → Option SdcOption → Opened → Answer Collected
collected_by s given (Some awaited) o = option_word s given awaited o >>= λ more. Ok (complete more)
collected_by s given None o = if is_option o.word then option s given o else (value s given o >>= λ more. Ok (complete more))

-- one word more
unfoldable pub collected : Setting → Collected → Opened → Answer Collected
collected s before o = collected_by s before.given before.awaits o

-- all the words
unfoldable pub collected_all : Setting → Collected → List Opened → Answer Collected
collected_all s before [] = Ok before
collected_all s before (o ∷ os) = collected s before o >>= λ more. collected_all s more os

abbrev pub awaits_word : Option SdcOption → Bool
awaits_word None = false
awaits_word (Some option) = takes_word option

-- a word is the option `-name`; `owned` says that it belongs to the option before it
abbrev pub is_name_option : Bool → Opened → Bool
is_name_option owned o = not owned && (is_option o.word && bytes_eq o.word.text (codes "-name"))

-- it is an option that the next word belongs to
abbrev pub owns_next : CommandKind → Bool → Opened → Bool
owns_next kind owned o = not owned && (is_option o.word && awaits_word (option_of kind o.word.text))

-- `-name` stands among the words as an option
unfoldable pub is_named : CommandKind → Bool → List Opened → Bool
is_named kind owned [] = false
is_named kind owned (o ∷ os) = is_name_option owned o || is_named kind (owns_next kind owned o) os
