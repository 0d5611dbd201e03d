-- What the words of a command give, one after the other.
use Rattle.std.proofs.Common.{◌≡◌, ℕ, ◌+◌, ℤ, Bool, true, false, List, [], ◌∷◌, length, Some, None, Ok, decimal, refl, ap, ◌∙◌, subst}
use Rattle.std.specs.Fmt.{signed_decimal}
use Rattle.std.proofs.lemmas.List.{append-nil}
use Rattle.bud_syntax.specs.declared.constraints.Object.{Object}
use Rattle.tcl_words.specs.declared.words.WordKind.TheVariants.{Bare, Braced}
use Rattle.tcl_words.specs.Lists.{elements}
use Rattle.text_scan.specs.declared.decimals.Round.{Round}
use Rattle.text_scan.specs.declared.decimals.Round.TheVariants.{Down}
use Rattle.sdc_reader.specs.declared.given.TimeUnit.TheVariants.{Picoseconds}
use Rattle.sdc_reader.specs.declared.given.Setting.{Setting}
use Rattle.sdc_reader.specs.declared.given.Given.{Given}
use Rattle.sdc_reader.specs.declared.given.Collected.{Collected}
use Rattle.sdc_reader.specs.declared.given.Slot.TheVariants as slot
use Rattle.sdc_reader.specs.declared.opened.Opened.{Opened}
use Rattle.sdc_reader.specs.declared.options.CommandKind.{CommandKind}
use Rattle.sdc_reader.specs.declared.options.SdcOption.{SdcOption}
use Rattle.sdc_reader.specs.declared.options.SdcOption.TheVariants.{Period, Name, Waveform as WaveformOption, Clock, From, To}
use Rattle.sdc_reader.specs.Brackets.{opened}
use Rattle.sdc_reader.specs.Collecting.{complete, slot_of, option_word, value, option, collected, collected_all}
use Rattle.sdc_reader.specs.Numbers.{is_small}
use Rattle.sdc_reader.specs.Options.{option_of, has, excludes, with_option, takes_word}
use Rattle.sdc_reader.specs.Values.{whole, time_word, count_word, clock_name, clock_name_word, clock, waveform, times, object_word}
use Rattle.sdc_reader.specs.Words.{is_option, is_dashed, is_clock_name}
use Rattle.sdc_writer.specs.Texts.{words, braced}
use Rattle.sdc_writer.specs.Printable.{has_some, is_kept_name, are_written}
use Rattle.sdc_writer.proofs.Elements.{name_elements, elements_are}
use Rattle.sdc_writer.proofs.Numbers.{time_printed, time_is_word, IsCount, count_written, count_low, natural_word, edge_names, edge_elements}
use Rattle.sdc_writer.proofs.Rows.{Row, forest_at}
use Rattle.sdc_writer.proofs.Rows.Row.{nothing, bare, braces}
use Rattle.sdc_writer.proofs.ObjectWords.{object_row, objects_read}

-- times are in ps
abbrev pub setting : CommandKind → Bool → Setting
setting kind named = record { unit = Picoseconds; kind = kind; named = named }

abbrev pub bare_word : ℕ → List ℕ → Opened
bare_word at text = record { word = record { at = at; kind = Bare; text = text }; inside = None }

abbrev pub braced_word : ℕ → List ℕ → Opened
braced_word at text = record { word = record { at = at; kind = Braced; text = text }; inside = None }

-- the words of a row lead from what was given before to this
pub record Takes (s : Setting) (before : Collected) (row : Row) (behind : Collected) : Type 0 where
  pub all : (at : ℕ) → collected_all s before (opened (forest_at at row)) ≡ Ok behind

pub takes_none : {s : Setting} {before : Collected} → Takes s before nothing before
unfolding collected_all
takes_none = record { all = λ at. refl }

pub takes_bare : {s : Setting} {before more behind : Collected} {row : Row} (text : List ℕ) → ((at : ℕ) → collected s before (bare_word at text) ≡ Ok more) → Takes s more row behind → Takes s before (bare text row) behind
unfolding collected_all
takes_bare text step rest = record { all = λ at. rw (step at) (rest.all (at + length text + 1)) }

pub takes_braced : {s : Setting} {before more behind : Collected} {row : Row} (text : List ℕ) → ((at : ℕ) → collected s before (braced_word at text) ≡ Ok more) → Takes s more row behind → Takes s before (braces text row) behind
unfolding collected_all
takes_braced text step rest = record { all = λ at. rw (step at) (rest.all (at + length (braced text) + 1)) }

-- a word that gives these objects
pub record GivesObjects (os : List Object) (o : Opened) : Type 0 where
  pub no_option : is_option o.word ≡ false
  pub given : (ports : Bool) → object_word ports true o ≡ Ok os

pub takes_objects : (s : Setting) (before more behind : Collected) (os : List Object) (row : Row) → are_written os ≡ true → has_some os ≡ true → ((o : Opened) → GivesObjects os o → collected s before o ≡ Ok more) → Takes s more row behind →
    Takes s before (object_row os row) behind
unfolding collected_all
takes_objects s before more behind os row written some step rest = record { all = all }
  where
    all : (at : ℕ) → collected_all s before (opened (forest_at at (object_row os row))) ≡ Ok behind
    all at =
        let is = objects_read os at row written some in
        let first : collected_all s before (opened (forest_at at (object_row os row))) ≡ collected_all s before (is.word ∷ opened (forest_at is.next row)) = ap (λ xs. collected_all s before xs) is.are in
        let others : collected_all s before (is.word ∷ opened (forest_at is.next row)) ≡ Ok behind = rw (step is.word (record { no_option = is.no_option; given = is.given })) (rest.all is.next) in
        first ∙ others

-- ---- options
abbrev pub seen_also : SdcOption → Given → Given
seen_also option given = record given { seen = with_option option given.seen }

-- the option was given, and its word comes next
abbrev pub awaiting : SdcOption → Given → Collected
awaiting option given = record { given = seen_also option given; awaits = Some option }

pub word_option_taken : (s : Setting) (given : Given) (o : SdcOption) (text : List ℕ) → is_dashed text ≡ true → option_of s.kind text ≡ Some o → takes_word o ≡ true → has given.seen o ≡ false → excludes given.seen o ≡ false →
    (at : ℕ) → collected s (complete given) (bare_word at text) ≡ Ok (awaiting o given)
unfolding collected option
word_option_taken s given o text dashed known takes fresh allowed at = rw (dashed, known, fresh, allowed, takes) refl

pub option_taken : (s : Setting) (given : Given) (o : SdcOption) (text : List ℕ) → is_dashed text ≡ true → option_of s.kind text ≡ Some o → takes_word o ≡ false → has given.seen o ≡ false → excludes given.seen o ≡ false →
    (at : ℕ) → collected s (complete given) (bare_word at text) ≡ Ok (complete (seen_also o given))
unfolding collected option
option_taken s given o text dashed known takes fresh allowed at = rw (dashed, known, fresh, allowed, takes) refl

-- ---- words in their places
pub amount_taken : (kind : CommandKind) (named : Bool) (given : Given) (round : Round) (z : ℤ) → slot_of kind given ≡ Some (slot.Time round) → is_small z ≡ true →
    (at : ℕ) → collected (setting kind named) (complete given) (bare_word at (signed_decimal z)) ≡ Ok (complete (record given { amount = Some z }))
unfolding collected value time_word whole
amount_taken kind named given round z place small at = rw ((time_is_word z small).undashed, place, time_printed round at z small) refl

pub count_taken : (kind : CommandKind) (named : Bool) (given : Given) (n : ℕ) → slot_of kind given ≡ Some slot.Count → IsCount n →
    (at : ℕ) → collected (setting kind named) (complete given) (bare_word at (decimal n)) ≡ Ok (complete (record given { count = Some n }))
unfolding collected value count_word whole
count_taken kind named given n place is at = rw ((natural_word n (count_low n is)).undashed, place, count_written at n is) refl

pub ports_taken : (kind : CommandKind) (named : Bool) (given : Given) (os : List Object) → slot_of kind given ≡ Some slot.Ports →
    (o : Opened) → GivesObjects os o → collected (setting kind named) (complete given) o ≡ Ok (complete (record given { objects = Some os }))
unfolding collected value
ports_taken kind named given os place o is = rw (is.no_option, place, is.given true) refl

pub sources_taken : (kind : CommandKind) (given : Given) (os : List Object) → slot_of kind given ≡ Some slot.Sources →
    (o : Opened) → GivesObjects os o → collected (setting kind true) (complete given) o ≡ Ok (complete (record given { objects = Some os }))
unfolding collected value
sources_taken kind given os place o is = rw (is.no_option, place, is.given true) refl

-- ---- words of options
pub name_taken : (s : Setting) (given : Given) (name : List ℕ) → is_clock_name name ≡ true →
    (at : ℕ) → collected s (record { given = given; awaits = Some Name }) (braced_word at name) ≡ Ok (complete (record given { name = Some name }))
unfolding collected option_word clock_name_word clock_name whole
name_taken s given name is at = rw is refl

one_element : (name : List ℕ) → is_kept_name name ≡ true → elements Braced name ≡ name ∷ []
one_element name is = subst (λ text. elements Braced text ≡ name ∷ []) (append-nil name) (elements_are (name ∷ []) (name_elements (name ∷ []) (rw is refl)))

pub clock_taken : (s : Setting) (given : Given) (name : List ℕ) → is_kept_name name ≡ true →
    (at : ℕ) → collected s (record { given = given; awaits = Some Clock }) (braced_word at name) ≡ Ok (complete (record given { clock = Some name }))
unfolding collected option_word clock
clock_taken s given name is at = rw (one_element name is) refl

pub period_taken : (kind : CommandKind) (named : Bool) (given : Given) (z : ℤ) → is_small z ≡ true →
    (at : ℕ) → collected (setting kind named) (record { given = given; awaits = Some Period }) (bare_word at (signed_decimal z)) ≡ Ok (complete (record given { period = Some z }))
unfolding collected option_word time_word whole
period_taken kind named given z small at = rw (time_printed Down at z small) refl

pub waveform_taken : (kind : CommandKind) (named : Bool) (given : Given) (rise fall : ℤ) → is_small rise ≡ true → is_small fall ≡ true →
    (at : ℕ) → collected (setting kind named) (record { given = given; awaits = Some WaveformOption }) (braced_word at (words (edge_names rise fall)))
    ≡ Ok (complete (record given { waveform = Some (record { rise = rise; fall = fall }) }))
unfolding collected option_word waveform times whole
waveform_taken kind named given rise fall first second at =
    rw (elements_are (edge_names rise fall) (edge_elements rise fall first second), time_printed Down at rise first, time_printed Down at fall second) refl

pub from_taken : (s : Setting) (given : Given) (os : List Object) →
    (o : Opened) → GivesObjects os o → collected s (record { given = given; awaits = Some From }) o ≡ Ok (complete (record given { from = Some os }))
unfolding collected option_word
from_taken s given os o is = rw (is.given false) refl

pub to_taken : (s : Setting) (given : Given) (os : List Object) →
    (o : Opened) → GivesObjects os o → collected s (record { given = given; awaits = Some To }) o ≡ Ok (complete (record given { to = Some os }))
unfolding collected option_word
to_taken s given os o is = rw (is.given false) refl
