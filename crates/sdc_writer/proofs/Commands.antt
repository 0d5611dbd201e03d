-- Commands as rows of words, and what they are read as.
use Rattle.std.proofs.Common.{◌≡◌, ℕ, ◌+◌, ◌||◌, ◌&&◌, not, nat_le, ℤ, Bool, true, false, List, [], ◌∷◌, ◌++◌, length, Option, Some, None, is_none, Ok, codes, decimal, refl, ap, ◌∙◌, if◌then◌else◌}
use Rattle.std.specs.Fmt.{signed_decimal}
use Rattle.std.proofs.lemmas.Bool.{and_parts}
use Rattle.std.proofs.lemmas.List.{append-nil}
use Rattle.text_scan.specs.declared.decimals.Round.TheVariants.{Up, Down}
use Rattle.bud_syntax.specs.declared.constraints.Object.{Object}
use Rattle.bud_syntax.specs.declared.constraints.SdcCommand.{SdcCommand}
use Rattle.bud_syntax.specs.declared.constraints.SdcCommand.TheVariants as timing
use Rattle.bud_syntax.specs.declared.edges.Edge.{Edge}
use Rattle.bud_syntax.specs.declared.edges.Edge.TheVariants.{Rise, Fall}
use Rattle.sdc_reader.specs.declared.given.TimeUnit.TheVariants.{Nanoseconds, Picoseconds}
use Rattle.sdc_reader.specs.declared.given.Setting.{Setting}
use Rattle.sdc_reader.specs.declared.given.Given.{Given}
use Rattle.sdc_reader.specs.declared.given.Line.TheVariants as does
use Rattle.sdc_reader.specs.declared.options.CommandKind.{CommandKind}
use Rattle.sdc_reader.specs.declared.options.CommandKind.TheVariants.{CreateClock, InputDelay, OutputDelay, FalsePath, Multicycle, MaxDelay}
use Rattle.sdc_reader.specs.declared.given.Slot.{Slot}
use Rattle.sdc_reader.specs.declared.given.Slot.TheVariants as slot
use Rattle.sdc_reader.specs.declared.options.SdcOption.TheVariants.{Period, Name, Waveform as WaveformOption, Clock as ClockOption, ClockFall, Max, AddDelay, Setup, Start, From, To}
use Rattle.sdc_reader.specs.Brackets.{opened}
use Rattle.sdc_reader.specs.Collecting.{nothing_given, complete, slot_of, is_named, option, option_word, value, collected, collected_all}
use Rattle.sdc_reader.specs.Commands.{command, obeyed, kind_word, is_set, line, clock_line, input_delay_line, output_delay_line, false_path_line, multicycle_line, max_delay_line}
use Rattle.sdc_reader.specs.Numbers.{is_small}
use Rattle.sdc_reader.specs.Options.{kind_of, option_of, delay_option, none_seen}
use Rattle.sdc_reader.specs.Values.{whole, unit_word}
use Rattle.sdc_reader.specs.Words.{is_clock_name}
use Rattle.sdc_writer.specs.Texts.{words, braced, object_word, delay_words, part_words, between, clock_words, cycle_words, command_words}
use Rattle.sdc_writer.specs.Printable.{has_some, is_kept_name, are_written, is_part, is_written_part, is_written_delay, is_written_exception, is_written_command}
use Rattle.sdc_writer.proofs.Numbers.{IsCount, count_low, natural_word, time_is_word, edge_names, edges_kept}
use Rattle.sdc_writer.proofs.PlainWords.{is_plain_word, name_is_kept, clock_name_kept}
use Rattle.sdc_writer.proofs.Rows.{Row, texts, forest_at, IsFine, IsLine}
use Rattle.sdc_writer.proofs.Rows.Row.{nothing, bare, braces}
use Rattle.sdc_writer.proofs.ObjectWords.{object_row, objects_text, objects_fine}
use Rattle.sdc_writer.proofs.Steps.{setting, Takes, takes_none, takes_bare, takes_braced, takes_objects, seen_also, word_option_taken, option_taken, amount_taken, count_taken, ports_taken, sources_taken, name_taken, clock_taken, period_taken, waveform_taken, from_taken, to_taken}

-- ---- a command from its words
pub command_reads : (kind : CommandKind) (title : List ℕ) (row : Row) (given : Given) (c : SdcCommand) → kind_of title ≡ Some kind → is_set kind ≡ false →
    ((place : ℕ) → collected_all (setting kind (is_named kind false (opened (forest_at place row)))) (complete nothing_given) (opened (forest_at place row)) ≡ Ok (complete given)) →
    ((at : ℕ) → line kind at given ≡ Ok (does.Timing c)) → (at : ℕ) → command Picoseconds (opened (forest_at at (bare title row))) ≡ Ok (does.Timing c)
unfolding command kind_word obeyed
command_reads kind title row given c known other takes says at = rw (known, other, takes (at + length title + 1), says at) refl

-- ---- clocks
abbrev clock_row : List ℕ → ℤ → ℤ → ℤ → List Object → Row
clock_row name period rise fall sources =
    bare (codes "-name") (braces name (bare (codes "-period") (bare (signed_decimal period) (bare (codes "-waveform") (braces (words (edge_names rise fall)) (object_row sources nothing))))))

clock_text : (name : List ℕ) (period rise fall : ℤ) (sources : List Object) → texts (clock_row name period rise fall sources) ≡ clock_words name period rise fall sources
clock_text name period rise fall sources =
    ap (λ ws. codes "-name" ∷ braced name ∷ codes "-period" ∷ signed_decimal period ∷ codes "-waveform" ∷ braced (words (edge_names rise fall)) ∷ ws) (objects_text sources nothing ∙ append-nil (object_word sources))

pub record IsClockWritten (name : List ℕ) (period rise fall : ℤ) (sources : List Object) : Type 0 where
  pub named : is_clock_name name ≡ true
  pub small_period : is_small period ≡ true
  pub small_rise : is_small rise ≡ true
  pub small_fall : is_small fall ≡ true
  pub written : are_written sources ≡ true

clock_parts : (name : List ℕ) (period rise fall : ℤ) (sources : List Object) → is_written_command (timing.Clock name period rise fall sources) ≡ true → IsClockWritten name period rise fall sources
clock_parts name period rise fall sources is =
    let a = and_parts (is_clock_name name) _ is in
    let b = and_parts (is_small period) _ a.1 in
    let c = and_parts (is_small rise) _ b.1 in
    let d = and_parts (is_small fall) _ c.1 in
    record { named = a.0; small_period = b.0; small_rise = c.0; small_fall = d.0; written = d.1 }

clock_fine : (name : List ℕ) (period rise fall : ℤ) (sources : List Object) → IsClockWritten name period rise fall sources → IsFine (clock_row name period rise fall sources)
clock_fine name period rise fall sources is =
    (refl, (clock_name_kept name is.named, (refl, ((time_is_word period is.small_period).plain, (refl, (edges_kept rise fall is.small_rise is.small_fall, objects_fine sources nothing is.written tt))))))

abbrev with_sources : Given → List Object → Given
with_sources given [] = given
with_sources given (o ∷ os) = record given { objects = Some (o ∷ os) }

sources_take : (given : Given) (sources : List Object) → slot_of CreateClock given ≡ Some slot.Sources → are_written sources ≡ true → Takes (setting CreateClock true) (complete given) (object_row sources nothing) (complete (with_sources given sources))
sources_take given [] place written = takes_none
sources_take given (o ∷ os) place written = takes_objects _ _ _ _ (o ∷ os) nothing written refl (sources_taken CreateClock given (o ∷ os) place) takes_none

abbrev clock_given : List ℕ → ℤ → ℤ → ℤ → Given
clock_given name period rise fall = record nothing_given {
  seen = record none_seen { name = true; period = true; waveform = true };
  name = Some name;
  period = Some period;
  waveform = Some (record { rise = rise; fall = fall });
}

clock_takes : (name : List ℕ) (period rise fall : ℤ) (sources : List Object) → IsClockWritten name period rise fall sources →
    Takes (setting CreateClock true) (complete nothing_given) (clock_row name period rise fall sources) (complete (with_sources (clock_given name period rise fall) sources))
clock_takes name period rise fall sources is =
    takes_bare (codes "-name") (word_option_taken (setting CreateClock true) _ Name (codes "-name") refl refl refl refl refl)
    (takes_braced name (name_taken (setting CreateClock true) _ name is.named)
    (takes_bare (codes "-period") (word_option_taken (setting CreateClock true) _ Period (codes "-period") refl refl refl refl refl)
    (takes_bare (signed_decimal period) (period_taken CreateClock true _ period is.small_period)
    (takes_bare (codes "-waveform") (word_option_taken (setting CreateClock true) _ WaveformOption (codes "-waveform") refl refl refl refl refl)
    (takes_braced (words (edge_names rise fall)) (waveform_taken CreateClock true _ rise fall is.small_rise is.small_fall)
    (sources_take (clock_given name period rise fall) sources refl is.written))))))

clock_says : (name : List ℕ) (period rise fall : ℤ) (sources : List Object) (at : ℕ) → line CreateClock at (with_sources (clock_given name period rise fall) sources) ≡ Ok (does.Timing (timing.Clock name period rise fall sources))
unfolding line clock_line
clock_says name period rise fall [] at = refl
clock_says name period rise fall (o ∷ os) at = refl

clock_named : (name : List ℕ) (period rise fall : ℤ) (sources : List Object) (place : ℕ) → is_named CreateClock false (opened (forest_at place (clock_row name period rise fall sources))) ≡ true
unfolding is_named
clock_named name period rise fall sources place = refl

clock_reads : (name : List ℕ) (period rise fall : ℤ) (sources : List Object) → IsClockWritten name period rise fall sources →
    (at : ℕ) → command Picoseconds (opened (forest_at at (bare (codes "create_clock") (clock_row name period rise fall sources)))) ≡ Ok (does.Timing (timing.Clock name period rise fall sources))
clock_reads name period rise fall sources is =
    command_reads CreateClock (codes "create_clock") (clock_row name period rise fall sources) (with_sources (clock_given name period rise fall) sources) _ refl refl
    (λ place. rw (clock_named name period rise fall sources place) ((clock_takes name period rise fall sources is).all place))
    (clock_says name period rise fall sources)

-- ---- delays
abbrev edge_row : Edge → Row → Row
edge_row Rise row = row
edge_row Fall row = bare (codes "-clock_fall") row

abbrev option_row : Bool → List ℕ → Row → Row
option_row false text row = row
option_row true text row = bare text row

abbrev end_row : Bool → List Object → Row
end_row add ports = bare (codes "-max") (option_row add (codes "-add_delay") (object_row ports nothing))

abbrev delay_row : ℤ → List ℕ → Edge → Bool → List Object → Row
delay_row amount clock edge add ports = bare (signed_decimal amount) (bare (codes "-clock") (braces clock (edge_row edge (end_row add ports))))

end_text : (ports : List Object) → texts (object_row ports nothing) ≡ object_word ports
end_text ports = objects_text ports nothing ∙ append-nil (object_word ports)

delay_text : (amount : ℤ) (clock : List ℕ) (edge : Edge) (add : Bool) (ports : List Object) → texts (delay_row amount clock edge add ports) ≡ delay_words amount clock edge add ports
delay_text amount clock Rise false ports = ap (λ ws. signed_decimal amount ∷ codes "-clock" ∷ braced clock ∷ codes "-max" ∷ ws) (end_text ports)
delay_text amount clock Rise true ports = ap (λ ws. signed_decimal amount ∷ codes "-clock" ∷ braced clock ∷ codes "-max" ∷ codes "-add_delay" ∷ ws) (end_text ports)
delay_text amount clock Fall false ports = ap (λ ws. signed_decimal amount ∷ codes "-clock" ∷ braced clock ∷ codes "-clock_fall" ∷ codes "-max" ∷ ws) (end_text ports)
delay_text amount clock Fall true ports = ap (λ ws. signed_decimal amount ∷ codes "-clock" ∷ braced clock ∷ codes "-clock_fall" ∷ codes "-max" ∷ codes "-add_delay" ∷ ws) (end_text ports)

pub record IsDelayWritten (amount : ℤ) (clock : List ℕ) (setup : Bool) (ports : List Object) : Type 0 where
  pub for_setup : setup ≡ true
  pub small : is_small amount ≡ true
  pub kept : is_kept_name clock ≡ true
  pub some : has_some ports ≡ true
  pub written : are_written ports ≡ true

delay_parts : (amount : ℤ) (clock : List ℕ) (setup : Bool) (ports : List Object) → is_written_delay amount clock setup ports ≡ true → IsDelayWritten amount clock setup ports
delay_parts amount clock setup ports is =
    let a = and_parts setup _ is in
    let b = and_parts (is_small amount) _ a.1 in
    let c = and_parts (is_kept_name clock) _ b.1 in
    let d = and_parts (has_some ports) (are_written ports) c.1 in
    record { for_setup = a.0; small = b.0; kept = c.0; some = d.0; written = d.1 }

end_fine : (add : Bool) (ports : List Object) → are_written ports ≡ true → IsFine (end_row add ports)
end_fine false ports written = (refl, objects_fine ports nothing written tt)
end_fine true ports written = (refl, (refl, objects_fine ports nothing written tt))

edge_fine : (edge : Edge) (row : Row) → IsFine row → IsFine (edge_row edge row)
edge_fine Rise row fine = fine
edge_fine Fall row fine = (refl, fine)

delay_fine : (amount : ℤ) (clock : List ℕ) (edge : Edge) (setup add : Bool) (ports : List Object) → IsDelayWritten amount clock setup ports → IsFine (delay_row amount clock edge add ports)
delay_fine amount clock edge setup add ports is =
    ((time_is_word amount is.small).plain, (refl, (name_is_kept clock is.kept, edge_fine edge (end_row add ports) (end_fine add ports is.written))))

abbrev end_given : Given → Bool → List Object → Given
end_given given false ports = record (seen_also Max given) { objects = Some ports }
end_given given true ports = record (seen_also AddDelay (seen_also Max given)) { objects = Some ports }

abbrev delay_slot : Given → Option Slot
delay_slot given = if is_none given.amount then Some (slot.Time Up) else (if is_none given.objects then Some slot.Ports else None)

-- a command of delays at ports
pub record IsDelayKind (kind : CommandKind) : Type 0 where
  pub options : (name : List ℕ) → option_of kind name ≡ delay_option name
  pub slots : (given : Given) → slot_of kind given ≡ delay_slot given

end_takes : (kind : CommandKind) (named : Bool) (given : Given) (add : Bool) (ports : List Object) → IsDelayKind kind → given.seen.max ≡ false → given.seen.add_delay ≡ false → delay_slot given ≡ Some slot.Ports →
    has_some ports ≡ true → are_written ports ≡ true → Takes (setting kind named) (complete given) (end_row add ports) (complete (end_given given add ports))
end_takes kind named given false ports is no_max no_add place some written =
    takes_bare (codes "-max") (option_taken (setting kind named) given Max (codes "-max") refl (is.options (codes "-max")) refl no_max refl)
    (takes_objects _ _ _ _ ports nothing written some (ports_taken kind named (seen_also Max given) ports (is.slots (seen_also Max given) ∙ place)) takes_none)
end_takes kind named given true ports is no_max no_add place some written =
    takes_bare (codes "-max") (option_taken (setting kind named) given Max (codes "-max") refl (is.options (codes "-max")) refl no_max refl)
    (takes_bare (codes "-add_delay") (option_taken (setting kind named) (seen_also Max given) AddDelay (codes "-add_delay") refl (is.options (codes "-add_delay")) refl no_add refl)
    (takes_objects _ _ _ _ ports nothing written some (ports_taken kind named (seen_also AddDelay (seen_also Max given)) ports (is.slots (seen_also AddDelay (seen_also Max given)) ∙ place)) takes_none))

abbrev clocked : ℤ → List ℕ → Given
clocked amount clock = record nothing_given { seen = record none_seen { clock = true }; amount = Some amount; clock = Some clock }

abbrev edge_given : Edge → Given → Given
edge_given Rise given = given
edge_given Fall given = seen_also ClockFall given

edge_takes : (kind : CommandKind) (named : Bool) (amount : ℤ) (clock : List ℕ) (edge : Edge) (add : Bool) (ports : List Object) → IsDelayKind kind → has_some ports ≡ true → are_written ports ≡ true →
    Takes (setting kind named) (complete (clocked amount clock)) (edge_row edge (end_row add ports)) (complete (end_given (edge_given edge (clocked amount clock)) add ports))
edge_takes kind named amount clock Rise add ports is some written = end_takes kind named (clocked amount clock) add ports is refl refl refl some written
edge_takes kind named amount clock Fall add ports is some written =
    takes_bare (codes "-clock_fall") (option_taken (setting kind named) (clocked amount clock) ClockFall (codes "-clock_fall") refl (is.options (codes "-clock_fall")) refl refl refl)
    (end_takes kind named (seen_also ClockFall (clocked amount clock)) add ports is refl refl refl some written)

delay_takes : (kind : CommandKind) (named : Bool) (amount : ℤ) (clock : List ℕ) (edge : Edge) (setup add : Bool) (ports : List Object) → IsDelayKind kind → IsDelayWritten amount clock setup ports →
    Takes (setting kind named) (complete nothing_given) (delay_row amount clock edge add ports) (complete (end_given (edge_given edge (clocked amount clock)) add ports))
delay_takes kind named amount clock edge setup add ports is fine =
    takes_bare (signed_decimal amount) (amount_taken kind named nothing_given Up amount (is.slots nothing_given) fine.small)
    (takes_bare (codes "-clock") (word_option_taken (setting kind named) _ ClockOption (codes "-clock") refl (is.options (codes "-clock")) refl refl refl)
    (takes_braced clock (clock_taken (setting kind named) _ clock fine.kept)
    (edge_takes kind named amount clock edge add ports is fine.some fine.written)))

input_kind : IsDelayKind InputDelay
input_kind = record { options = λ name. refl; slots = λ given. refl }

output_kind : IsDelayKind OutputDelay
output_kind = record { options = λ name. refl; slots = λ given. refl }

input_says : (amount : ℤ) (clock : List ℕ) (edge : Edge) (setup add : Bool) (ports : List Object) → setup ≡ true →
    (at : ℕ) → line InputDelay at (end_given (edge_given edge (clocked amount clock)) add ports) ≡ Ok (does.Timing (timing.InputDelay amount clock edge setup add ports))
unfolding line input_delay_line
input_says amount clock Rise setup false ports is at = rw is refl
input_says amount clock Rise setup true ports is at = rw is refl
input_says amount clock Fall setup false ports is at = rw is refl
input_says amount clock Fall setup true ports is at = rw is refl

output_says : (amount : ℤ) (clock : List ℕ) (edge : Edge) (setup add : Bool) (ports : List Object) → setup ≡ true →
    (at : ℕ) → line OutputDelay at (end_given (edge_given edge (clocked amount clock)) add ports) ≡ Ok (does.Timing (timing.OutputDelay amount clock edge setup add ports))
unfolding line output_delay_line
output_says amount clock Rise setup false ports is at = rw is refl
output_says amount clock Rise setup true ports is at = rw is refl
output_says amount clock Fall setup false ports is at = rw is refl
output_says amount clock Fall setup true ports is at = rw is refl

input_reads : (amount : ℤ) (clock : List ℕ) (edge : Edge) (setup add : Bool) (ports : List Object) → IsDelayWritten amount clock setup ports →
    (at : ℕ) → command Picoseconds (opened (forest_at at (bare (codes "set_input_delay") (delay_row amount clock edge add ports)))) ≡ Ok (does.Timing (timing.InputDelay amount clock edge setup add ports))
input_reads amount clock edge setup add ports is =
    command_reads InputDelay (codes "set_input_delay") (delay_row amount clock edge add ports) (end_given (edge_given edge (clocked amount clock)) add ports) _ refl refl
    (λ place. (delay_takes InputDelay (is_named InputDelay false (opened (forest_at place (delay_row amount clock edge add ports)))) amount clock edge setup add ports input_kind is).all place)
    (input_says amount clock edge setup add ports is.for_setup)

output_reads : (amount : ℤ) (clock : List ℕ) (edge : Edge) (setup add : Bool) (ports : List Object) → IsDelayWritten amount clock setup ports →
    (at : ℕ) → command Picoseconds (opened (forest_at at (bare (codes "set_output_delay") (delay_row amount clock edge add ports)))) ≡ Ok (does.Timing (timing.OutputDelay amount clock edge setup add ports))
output_reads amount clock edge setup add ports is =
    command_reads OutputDelay (codes "set_output_delay") (delay_row amount clock edge add ports) (end_given (edge_given edge (clocked amount clock)) add ports) _ refl refl
    (λ place. (delay_takes OutputDelay (is_named OutputDelay false (opened (forest_at place (delay_row amount clock edge add ports)))) amount clock edge setup add ports output_kind is).all place)
    (output_says amount clock edge setup add ports is.for_setup)

-- ---- parts of exceptions
abbrev part_row : List ℕ → Option (List Object) → Row → Row
part_row option None row = row
part_row option (Some os) row = bare option (object_row os row)

abbrev between_row : Option (List Object) → Option (List Object) → Row
between_row from to = part_row (codes "-from") from (part_row (codes "-to") to nothing)

part_text : (option : List ℕ) (part : Option (List Object)) (row : Row) → texts (part_row option part row) ≡ part_words option part ++ texts row
part_text option None row = refl
part_text option (Some os) row = ap (λ ws. option ∷ ws) (objects_text os row)

between_text : (from to : Option (List Object)) → texts (between_row from to) ≡ between from to
between_text from to =
    part_text (codes "-from") from (part_row (codes "-to") to nothing)
    ∙ ap (λ ws. part_words (codes "-from") from ++ ws) (part_text (codes "-to") to nothing ∙ append-nil (part_words (codes "-to") to))

part_fine : (option : List ℕ) (part : Option (List Object)) (row : Row) → is_plain_word option ≡ true → is_written_part part ≡ true → IsFine row → IsFine (part_row option part row)
part_fine option None row plain written fine = fine
part_fine option (Some os) row plain written fine = (plain, objects_fine os row (and_parts (has_some os) (are_written os) written).1 fine)

pub record IsBetweenWritten (from to : Option (List Object)) : Type 0 where
  pub one : (is_part from || is_part to) ≡ true
  pub first : is_written_part from ≡ true
  pub last : is_written_part to ≡ true

between_fine : (from to : Option (List Object)) → IsBetweenWritten from to → IsFine (between_row from to)
between_fine from to is = part_fine (codes "-from") from (part_row (codes "-to") to nothing) refl is.first (part_fine (codes "-to") to nothing refl is.last tt)

pub record IsExceptionWritten (setup : Bool) (from : Option (List Object)) (through : List (List Object)) (to : Option (List Object)) : Type 0 where
  pub for_setup : setup ≡ true
  pub no_groups : through ≡ []
  pub parts : IsBetweenWritten from to

no_elements : {X : Type 0} (xs : List X) → not (has_some xs) ≡ true → xs ≡ []
no_elements [] is = refl
no_elements (x ∷ xs) is = absurd (cc)

exception_parts : (setup : Bool) (from : Option (List Object)) (through : List (List Object)) (to : Option (List Object)) → is_written_exception setup from through to ≡ true → IsExceptionWritten setup from through to
exception_parts setup from through to is =
    let a = and_parts setup _ is in
    let b = and_parts (not (has_some through)) _ a.1 in
    let c = and_parts (is_part from || is_part to) _ b.1 in
    let d = and_parts (is_written_part from) (is_written_part to) c.1 in
    record { for_setup = a.0; no_groups = no_elements through b.0; parts = record { one = c.0; first = d.0; last = d.1 } }

abbrev with_from : Given → Option (List Object) → Given
with_from given None = given
with_from given (Some os) = record (seen_also From given) { from = Some os }

abbrev with_to : Given → Option (List Object) → Given
with_to given None = given
with_to given (Some os) = record (seen_also To given) { to = Some os }

to_takes : (s : Setting) (given : Given) (to : Option (List Object)) → option_of s.kind (codes "-to") ≡ Some To → given.seen.to ≡ false → is_written_part to ≡ true →
    Takes s (complete given) (part_row (codes "-to") to nothing) (complete (with_to given to))
to_takes s given None known fresh written = takes_none
to_takes s given (Some os) known fresh written =
    let parts = and_parts (has_some os) (are_written os) written in
    takes_bare (codes "-to") (word_option_taken s given To (codes "-to") refl known refl fresh refl) (takes_objects _ _ _ _ os nothing parts.1 parts.0 (to_taken s (seen_also To given) os) takes_none)

between_takes : (s : Setting) (given : Given) (from to : Option (List Object)) → option_of s.kind (codes "-from") ≡ Some From → option_of s.kind (codes "-to") ≡ Some To → given.seen.from ≡ false → given.seen.to ≡ false → IsBetweenWritten from to →
    Takes s (complete given) (between_row from to) (complete (with_to (with_from given from) to))
between_takes s given None to from_known to_known no_from no_to is = to_takes s given to to_known no_to is.last
between_takes s given (Some os) to from_known to_known no_from no_to is =
    let parts = and_parts (has_some os) (are_written os) is.first in
    takes_bare (codes "-from") (word_option_taken s given From (codes "-from") refl from_known refl no_from refl)
    (takes_objects _ _ _ _ os (part_row (codes "-to") to nothing) parts.1 parts.0 (from_taken s (seen_also From given) os) (to_takes s (with_from given (Some os)) to to_known no_to is.last))

-- ---- exceptions
abbrev false_path_row : Option (List Object) → Option (List Object) → Row
false_path_row from to = bare (codes "-setup") (between_row from to)

abbrev setup_seen : Given
setup_seen = seen_also Setup nothing_given

false_path_says : (setup : Bool) (from to : Option (List Object)) (through : List (List Object)) → IsExceptionWritten setup from through to →
    (at : ℕ) → line FalsePath at (with_to (with_from setup_seen from) to) ≡ Ok (does.Timing (timing.FalsePath setup from through to))
unfolding line false_path_line
false_path_says setup None None through is at = absurd (let wrong = is.parts.one in cc)
false_path_says setup None (Some b) through is at = rw (is.for_setup, is.no_groups) refl
false_path_says setup (Some a) None through is at = rw (is.for_setup, is.no_groups) refl
false_path_says setup (Some a) (Some b) through is at = rw (is.for_setup, is.no_groups) refl

false_path_reads : (setup : Bool) (from to : Option (List Object)) (through : List (List Object)) → IsExceptionWritten setup from through to →
    (at : ℕ) → command Picoseconds (opened (forest_at at (bare (codes "set_false_path") (false_path_row from to)))) ≡ Ok (does.Timing (timing.FalsePath setup from through to))
false_path_reads setup from to through is =
    command_reads FalsePath (codes "set_false_path") (false_path_row from to) (with_to (with_from setup_seen from) to) _ refl refl
    (λ place. (takes (is_named FalsePath false (opened (forest_at place (false_path_row from to))))).all place)
    (false_path_says setup from to through is)
  where
    takes : (named : Bool) → Takes (setting FalsePath named) (complete nothing_given) (false_path_row from to) (complete (with_to (with_from setup_seen from) to))
    takes named =
        takes_bare (codes "-setup") (option_taken (setting FalsePath named) nothing_given Setup (codes "-setup") refl refl refl refl refl)
        (between_takes (setting FalsePath named) setup_seen from to refl refl refl refl is.parts)

abbrev cycle_row : ℕ → Bool → Option (List Object) → Option (List Object) → Row
cycle_row n by_launch from to = bare (decimal n) (bare (codes "-setup") (option_row by_launch (codes "-start") (between_row from to)))

cycle_text : (n : ℕ) (by_launch : Bool) (from to : Option (List Object)) → texts (cycle_row n by_launch from to) ≡ cycle_words n by_launch from to
cycle_text n false from to = ap (λ ws. decimal n ∷ codes "-setup" ∷ ws) (between_text from to)
cycle_text n true from to = ap (λ ws. decimal n ∷ codes "-setup" ∷ codes "-start" ∷ ws) (between_text from to)

cycle_fine : (n : ℕ) (by_launch : Bool) (from to : Option (List Object)) → IsCount n → IsBetweenWritten from to → IsFine (cycle_row n by_launch from to)
cycle_fine n false from to is parts = ((natural_word n (count_low n is)).plain, (refl, between_fine from to parts))
cycle_fine n true from to is parts = ((natural_word n (count_low n is)).plain, (refl, (refl, between_fine from to parts)))

abbrev counted : ℕ → Given
counted n = seen_also Setup (record nothing_given { count = Some n })

abbrev start_given : Bool → Given → Given
start_given false given = given
start_given true given = seen_also Start given

cycle_takes : (named : Bool) (n : ℕ) (by_launch : Bool) (from to : Option (List Object)) → IsCount n → IsBetweenWritten from to →
    Takes (setting Multicycle named) (complete nothing_given) (cycle_row n by_launch from to) (complete (with_to (with_from (start_given by_launch (counted n)) from) to))
cycle_takes named n false from to is parts =
    takes_bare (decimal n) (count_taken Multicycle named nothing_given n refl is)
    (takes_bare (codes "-setup") (option_taken (setting Multicycle named) _ Setup (codes "-setup") refl refl refl refl refl)
    (between_takes (setting Multicycle named) (counted n) from to refl refl refl refl parts))
cycle_takes named n true from to is parts =
    takes_bare (decimal n) (count_taken Multicycle named nothing_given n refl is)
    (takes_bare (codes "-setup") (option_taken (setting Multicycle named) _ Setup (codes "-setup") refl refl refl refl refl)
    (takes_bare (codes "-start") (option_taken (setting Multicycle named) (counted n) Start (codes "-start") refl refl refl refl refl)
    (between_takes (setting Multicycle named) (seen_also Start (counted n)) from to refl refl refl refl parts)))

cycle_says : (n : ℕ) (setup by_launch : Bool) (from to : Option (List Object)) (through : List (List Object)) → IsExceptionWritten setup from through to →
    (at : ℕ) → line Multicycle at (with_to (with_from (start_given by_launch (counted n)) from) to) ≡ Ok (does.Timing (timing.Multicycle n setup by_launch from through to))
unfolding line multicycle_line
cycle_says n setup by_launch None None through is at = absurd (let wrong = is.parts.one in cc)
cycle_says n setup false None (Some b) through is at = rw (is.for_setup, is.no_groups) refl
cycle_says n setup true None (Some b) through is at = rw (is.for_setup, is.no_groups) refl
cycle_says n setup false (Some a) None through is at = rw (is.for_setup, is.no_groups) refl
cycle_says n setup true (Some a) None through is at = rw (is.for_setup, is.no_groups) refl
cycle_says n setup false (Some a) (Some b) through is at = rw (is.for_setup, is.no_groups) refl
cycle_says n setup true (Some a) (Some b) through is at = rw (is.for_setup, is.no_groups) refl

cycle_reads : (n : ℕ) (setup by_launch : Bool) (from to : Option (List Object)) (through : List (List Object)) → IsCount n → IsExceptionWritten setup from through to →
    (at : ℕ) → command Picoseconds (opened (forest_at at (bare (codes "set_multicycle_path") (cycle_row n by_launch from to)))) ≡ Ok (does.Timing (timing.Multicycle n setup by_launch from through to))
cycle_reads n setup by_launch from to through small is =
    command_reads Multicycle (codes "set_multicycle_path") (cycle_row n by_launch from to) (with_to (with_from (start_given by_launch (counted n)) from) to) _ refl refl
    (λ place. (cycle_takes (is_named Multicycle false (opened (forest_at place (cycle_row n by_launch from to)))) n by_launch from to small is.parts).all place)
    (cycle_says n setup by_launch from to through is)

abbrev max_row : ℤ → Option (List Object) → Option (List Object) → Row
max_row amount from to = bare (signed_decimal amount) (between_row from to)

abbrev amounted : ℤ → Given
amounted amount = record nothing_given { amount = Some amount }

max_says : (amount : ℤ) (from to : Option (List Object)) (through : List (List Object)) → IsExceptionWritten true from through to →
    (at : ℕ) → line MaxDelay at (with_to (with_from (amounted amount) from) to) ≡ Ok (does.Timing (timing.MaxDelay amount from through to))
unfolding line max_delay_line
max_says amount None None through is at = absurd (let wrong = is.parts.one in cc)
max_says amount None (Some b) through is at = rw is.no_groups refl
max_says amount (Some a) None through is at = rw is.no_groups refl
max_says amount (Some a) (Some b) through is at = rw is.no_groups refl

max_reads : (amount : ℤ) (from to : Option (List Object)) (through : List (List Object)) → is_small amount ≡ true → IsExceptionWritten true from through to →
    (at : ℕ) → command Picoseconds (opened (forest_at at (bare (codes "set_max_delay") (max_row amount from to)))) ≡ Ok (does.Timing (timing.MaxDelay amount from through to))
max_reads amount from to through small is =
    command_reads MaxDelay (codes "set_max_delay") (max_row amount from to) (with_to (with_from (amounted amount) from) to) _ refl refl
    (λ place. (takes (is_named MaxDelay false (opened (forest_at place (max_row amount from to))))).all place)
    (max_says amount from to through is)
  where
    takes : (named : Bool) → Takes (setting MaxDelay named) (complete nothing_given) (max_row amount from to) (complete (with_to (with_from (amounted amount) from) to))
    takes named =
        takes_bare (signed_decimal amount) (amount_taken MaxDelay named nothing_given Down amount refl small)
        (between_takes (setting MaxDelay named) (amounted amount) from to refl refl refl refl is.parts)

-- ---- any timing command
abbrev pub command_row : SdcCommand → Row
command_row (timing.Clock name period rise fall sources) = bare (codes "create_clock") (clock_row name period rise fall sources)
command_row (timing.InputDelay amount clock edge setup add ports) = bare (codes "set_input_delay") (delay_row amount clock edge add ports)
command_row (timing.OutputDelay amount clock edge setup add ports) = bare (codes "set_output_delay") (delay_row amount clock edge add ports)
command_row (timing.FalsePath setup from through to) = bare (codes "set_false_path") (false_path_row from to)
command_row (timing.Multicycle count setup by_launch from through to) = bare (codes "set_multicycle_path") (cycle_row count by_launch from to)
command_row (timing.MaxDelay amount from through to) = bare (codes "set_max_delay") (max_row amount from to)

pub command_text : (c : SdcCommand) → texts (command_row c) ≡ command_words c
command_text (timing.Clock name period rise fall sources) = ap (λ ws. codes "create_clock" ∷ ws) (clock_text name period rise fall sources)
command_text (timing.InputDelay amount clock edge setup add ports) = ap (λ ws. codes "set_input_delay" ∷ ws) (delay_text amount clock edge add ports)
command_text (timing.OutputDelay amount clock edge setup add ports) = ap (λ ws. codes "set_output_delay" ∷ ws) (delay_text amount clock edge add ports)
command_text (timing.FalsePath setup from through to) = ap (λ ws. codes "set_false_path" ∷ codes "-setup" ∷ ws) (between_text from to)
command_text (timing.Multicycle count setup by_launch from through to) = ap (λ ws. codes "set_multicycle_path" ∷ ws) (cycle_text count by_launch from to)
command_text (timing.MaxDelay amount from through to) = ap (λ ws. codes "set_max_delay" ∷ signed_decimal amount ∷ ws) (between_text from to)

count_parts : (n : ℕ) (others : Bool) → (nat_le 1 n && (nat_le n 1000 && others)) ≡ true → IsCount n × (others ≡ true)
count_parts n others is =
    let a = and_parts (nat_le 1 n) _ is in
    let b = and_parts (nat_le n 1000) others a.1 in
    (record { least = a.0; most = b.0 }, b.1)

pub command_line : (c : SdcCommand) → is_written_command c ≡ true → IsLine (command_row c)
command_line (timing.Clock name period rise fall sources) is = (refl, clock_fine name period rise fall sources (clock_parts name period rise fall sources is))
command_line (timing.InputDelay amount clock edge setup add ports) is = (refl, delay_fine amount clock edge setup add ports (delay_parts amount clock setup ports is))
command_line (timing.OutputDelay amount clock edge setup add ports) is = (refl, delay_fine amount clock edge setup add ports (delay_parts amount clock setup ports is))
command_line (timing.FalsePath setup from through to) is = (refl, (refl, between_fine from to (exception_parts setup from through to is).parts))
command_line (timing.Multicycle count setup by_launch from through to) is =
    let parts = count_parts count (is_written_exception setup from through to) is in
    (refl, cycle_fine count by_launch from to parts.0 (exception_parts setup from through to parts.1).parts)
command_line (timing.MaxDelay amount from through to) is =
    let parts = and_parts (is_small amount) (is_written_exception true from through to) is in
    (refl, ((time_is_word amount parts.0).plain, between_fine from to (exception_parts true from through to parts.1).parts))

pub command_read : (c : SdcCommand) → is_written_command c ≡ true → (at : ℕ) → command Picoseconds (opened (forest_at at (command_row c))) ≡ Ok (does.Timing c)
command_read (timing.Clock name period rise fall sources) is = clock_reads name period rise fall sources (clock_parts name period rise fall sources is)
command_read (timing.InputDelay amount clock edge setup add ports) is = input_reads amount clock edge setup add ports (delay_parts amount clock setup ports is)
command_read (timing.OutputDelay amount clock edge setup add ports) is = output_reads amount clock edge setup add ports (delay_parts amount clock setup ports is)
command_read (timing.FalsePath setup from through to) is = false_path_reads setup from to through (exception_parts setup from through to is)
command_read (timing.Multicycle count setup by_launch from through to) is =
    let parts = count_parts count (is_written_exception setup from through to) is in
    cycle_reads count setup by_launch from to through parts.0 (exception_parts setup from through to parts.1)
command_read (timing.MaxDelay amount from through to) is =
    let parts = and_parts (is_small amount) (is_written_exception true from through to) is in
    max_reads amount from to through parts.0 (exception_parts true from through to parts.1)

-- ---- the other lines of a file
abbrev pub unit_row : Row
unit_row = bare (codes "set_units") (bare (codes "-time") (bare (codes "ps") nothing))

pub unit_reads : (at : ℕ) → command Nanoseconds (opened (forest_at at unit_row)) ≡ Ok (does.Unit Picoseconds)
unfolding command kind_word obeyed collected_all collected option option_word unit_word whole line
unit_reads at = refl

abbrev pub design_row : List ℕ → Row
design_row name = bare (codes "current_design") (braces name nothing)

pub design_reads : (name : List ℕ) (at : ℕ) → command Picoseconds (opened (forest_at at (design_row name))) ≡ Ok (does.Design name)
unfolding command kind_word obeyed collected_all collected value whole line
design_reads name at = refl
