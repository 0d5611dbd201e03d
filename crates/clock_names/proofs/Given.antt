-- What the words of `create_clock` give: names that a clock may have.
use Rattle.std.proofs.Common.{◌≡◌, ℕ, ◌||◌, ◌⊎◌, inl, inr, Bool, true, false, List, [], ◌∷◌, ◌++◌, Option, Some, None, Ok, Err, codes, refl, sym, ap, ◌∙◌, subst, true≢false, if◌then◌else◌}
use Rattle.std.specs.Prelude.{is_none}
use Rattle.std.proofs.lemmas.Slice.Eq.{bytes_eq-Decides}
use Rattle.bud_syntax.specs.declared.constraints.Object.{Object}
use Rattle.sdc_reader.specs.declared.faults.SdcFault.TheVariants.{Syntax}
use Rattle.sdc_reader.specs.declared.given.Setting.{Setting}
use Rattle.sdc_reader.specs.declared.given.Given.{Given}
use Rattle.sdc_reader.specs.declared.given.Collected.{Collected}
use Rattle.sdc_reader.specs.declared.given.TimeUnit.{TimeUnit}
use Rattle.sdc_reader.specs.declared.given.Slot.TheVariants as slot
use Rattle.sdc_reader.specs.declared.opened.Opened.{Opened}
use Rattle.sdc_reader.specs.declared.options.CommandKind.TheVariants.{CreateClock}
use Rattle.sdc_reader.specs.declared.options.SdcOption.{SdcOption}
use Rattle.sdc_reader.specs.declared.options.SdcOption.TheVariants.{Time, Resistance, Capacitance, Current, Voltage, Power, Period, Name, Waveform as WaveformOption, Comment, Clock, ClockFall, Max, Min, AddDelay, Setup, Hold, Start, End, From, Through, To}
use Rattle.text_scan.specs.declared.decimals.Round.TheVariants.{Down}
use Rattle.sdc_reader.specs.Answers.{Answer, ◌>>=◌}
use Rattle.sdc_reader.specs.Collecting.{is_named, is_name_option, owns_next, awaits_word, nothing_given, complete, option_word, slot_word, value, begun_option, option, collected_by, collected, collected_all}
use Rattle.sdc_reader.specs.Options.{option_of, has, excludes, with_option, takes_word}
use Rattle.sdc_reader.specs.Values.{time_word, waveform, unit_word, clock_name_word, clock, object_word, group_word, any}
use Rattle.sdc_reader.specs.Words.{is_option}
use Rattle.clock_names.proofs.Steps.{behind, answered, gave, IfThere, IsName, FirstIsNamed, name_word-is, sources-named}

-- what the word of an option changes of names and objects
abbrev Becomes : SdcOption → Given → Given → Type 0
Becomes Name a b = ((x : List ℕ) × ((b.name ≡ Some x) × IsName x)) × (b.objects ≡ a.objects)
Becomes _ a b = (b.name ≡ a.name) × (b.objects ≡ a.objects)

becomes : (s : Setting) (given : Given) (option : SdcOption) (o : Opened) (more : Given) → option_word s given option o ≡ Ok more → Becomes option given more
unfolding option_word
becomes s given Time o more is = gave (Becomes Time given) (unit_word o) (λ x. record given { unit = Some x }) more (λ x read. (refl, refl)) is
becomes s given Period o more is = gave (Becomes Period given) (time_word s.unit Down o) (λ x. record given { period = Some x }) more (λ x read. (refl, refl)) is
becomes s given Name o more is = gave (Becomes Name given) (clock_name_word o) (λ x. record given { name = Some x }) more (λ x read. ((x, (refl, name_word-is o x read)), refl)) is
becomes s given WaveformOption o more is = gave (Becomes WaveformOption given) (waveform s.unit o) (λ x. record given { waveform = Some x }) more (λ x read. (refl, refl)) is
becomes s given Clock o more is = gave (Becomes Clock given) (clock o) (λ x. record given { clock = Some x }) more (λ x read. (refl, refl)) is
becomes s given From o more is = gave (Becomes From given) (object_word false true o) (λ x. record given { from = Some x }) more (λ x read. (refl, refl)) is
becomes s given Through o more is = gave (Becomes Through given) (group_word o) (λ x. record given { through = given.through ++ x ∷ [] }) more (λ x read. (refl, refl)) is
becomes s given To o more is = gave (Becomes To given) (object_word false true o) (λ x. record given { to = Some x }) more (λ x read. (refl, refl)) is
becomes s given Resistance o more is = gave (Becomes Resistance given) (any o) (λ x. given) more (λ x read. (refl, refl)) is
becomes s given Capacitance o more is = gave (Becomes Capacitance given) (any o) (λ x. given) more (λ x read. (refl, refl)) is
becomes s given Current o more is = gave (Becomes Current given) (any o) (λ x. given) more (λ x read. (refl, refl)) is
becomes s given Voltage o more is = gave (Becomes Voltage given) (any o) (λ x. given) more (λ x read. (refl, refl)) is
becomes s given Power o more is = gave (Becomes Power given) (any o) (λ x. given) more (λ x read. (refl, refl)) is
becomes s given Comment o more is = gave (Becomes Comment given) (any o) (λ x. given) more (λ x read. (refl, refl)) is
becomes s given ClockFall o more is = gave (Becomes ClockFall given) (any o) (λ x. given) more (λ x read. (refl, refl)) is
becomes s given Max o more is = gave (Becomes Max given) (any o) (λ x. given) more (λ x read. (refl, refl)) is
becomes s given Min o more is = gave (Becomes Min given) (any o) (λ x. given) more (λ x read. (refl, refl)) is
becomes s given AddDelay o more is = gave (Becomes AddDelay given) (any o) (λ x. given) more (λ x read. (refl, refl)) is
becomes s given Setup o more is = gave (Becomes Setup given) (any o) (λ x. given) more (λ x read. (refl, refl)) is
becomes s given Hold o more is = gave (Becomes Hold given) (any o) (λ x. given) more (λ x read. (refl, refl)) is
becomes s given Start o more is = gave (Becomes Start given) (any o) (λ x. given) more (λ x read. (refl, refl)) is
becomes s given End o more is = gave (Becomes End given) (any o) (λ x. given) more (λ x read. (refl, refl)) is

-- ---- what is known of what was given
abbrev pub HasName : Option (List ℕ) → Type 0
HasName None = ⊥
HasName (Some name) = Unit {0}

pub record IsGiven (named : Bool) (given : Given) : Type 0 where
  pub name : IfThere IsName given.name
  pub objects : named ≡ false → IfThere FirstIsNamed given.objects

abbrev Named : Option (List ℕ) → Option (List Object) → Bool → Type 0
Named name objects named = IfThere IsName name × (named ≡ false → IfThere FirstIsNamed objects)

-- behind the word of an option
record IsBehind (named is_name : Bool) (a b : Given) : Type 0 where
  given : IsGiven named b
  keeps : HasName a.name → HasName b.name
  has : is_name ≡ true → HasName b.name

abbrev is_for_name : SdcOption → Bool
is_for_name Name = true
is_for_name _ = false

same-behind : (named : Bool) (a b : Given) → IsGiven named a → (b.name ≡ a.name) × (b.objects ≡ a.objects) → IsBehind named false a b
same-behind named a b r same = record {
  given = record { name = subst (IfThere IsName) (sym same.0) r.name; objects = λ apart. subst (IfThere FirstIsNamed) (sym same.1) (r.objects apart) };
  keeps = λ has. subst HasName (sym same.0) has;
  has = λ is. absurd (true≢false (sym is));
}

name-behind : (named : Bool) (a b : Given) (x : List ℕ) → IsGiven named a → b.name ≡ Some x → IsName x → b.objects ≡ a.objects → IsBehind named true a b
name-behind named a b x r is fine same = record {
  given = record { name = subst (IfThere IsName) (sym is) fine; objects = λ apart. subst (IfThere FirstIsNamed) (sym same) (r.objects apart) };
  keeps = λ has. subst HasName (sym is) tt;
  has = λ apt. subst HasName (sym is) tt;
}

option-behind : (named : Bool) (option : SdcOption) (a b : Given) → IsGiven named a → Becomes option a b → IsBehind named (is_for_name option) a b
option-behind named Time a b r is = same-behind named a b r is
option-behind named Period a b r is = same-behind named a b r is
option-behind named Name a b r is = name-behind named a b is.0.0 r is.0.1.0 is.0.1.1 is.1
option-behind named WaveformOption a b r is = same-behind named a b r is
option-behind named Clock a b r is = same-behind named a b r is
option-behind named From a b r is = same-behind named a b r is
option-behind named Through a b r is = same-behind named a b r is
option-behind named To a b r is = same-behind named a b r is
option-behind named Resistance a b r is = same-behind named a b r is
option-behind named Capacitance a b r is = same-behind named a b r is
option-behind named Current a b r is = same-behind named a b r is
option-behind named Voltage a b r is = same-behind named a b r is
option-behind named Power a b r is = same-behind named a b r is
option-behind named Comment a b r is = same-behind named a b r is
option-behind named ClockFall a b r is = same-behind named a b r is
option-behind named Max a b r is = same-behind named a b r is
option-behind named Min a b r is = same-behind named a b r is
option-behind named AddDelay a b r is = same-behind named a b r is
option-behind named Setup a b r is = same-behind named a b r is
option-behind named Hold a b r is = same-behind named a b r is
option-behind named Start a b r is = same-behind named a b r is
option-behind named End a b r is = same-behind named a b r is

-- ---- the words of `create_clock`
abbrev pub setting : TimeUnit → Bool → Setting
setting unit named = record { unit = unit; kind = CreateClock; named = named }

-- the value of a word that is no option: sources
record IsBehindValue (named : Bool) (a b : Given) : Type 0 where
  given : IsGiven named b
  keeps : HasName a.name → HasName b.name

slot-behind : (unit : TimeUnit) (named : Bool) (given : Given) (free : Bool) (o : Opened) (more : Given) → IsGiven named given → slot_word (setting unit named) given (if free then Some slot.Sources else None) o ≡ Ok more → IsBehindValue named given more
slot-behind unit named given false o more r is = (let no : ⊥ = cc in absurd no)
slot-behind unit named given true o more r is =
    gave (IsBehindValue named given) (object_word true named o) (λ x. record given { objects = Some x }) more
    (λ x read. record { given = record { name = r.name; objects = λ apart. sources-named named o x read apart }; keeps = λ has. has }) is

value-behind : (unit : TimeUnit) (named : Bool) (given : Given) (o : Opened) (more : Given) → IsGiven named given → value (setting unit named) given o ≡ Ok more → IsBehindValue named given more
unfolding value
value-behind unit named given o more r is = slot-behind unit named given (is_none given.objects) o more r is

-- ---- word by word
-- what is known before these words: the option that waits takes a word, and where the clock is named, it has its name, waits for it, or is named by these words
pub record Holds (named : Bool) (c : Collected) (os : List Opened) : Type 0 where
  pub given : IsGiven named c.given
  pub waits : IfThere (λ option. takes_word option ≡ true) c.awaits
  pub stands : named ≡ true → HasName c.given.name ⊎ ((c.awaits ≡ Some Name) ⊎ (is_named CreateClock (awaits_word c.awaits) os ≡ true))

-- the word of an option that waits
awaited-holds : (unit : TimeUnit) (named : Bool) (given : Given) (option : SdcOption) (o : Opened) (os : List Opened) (d : Collected)
    → Holds named (record { given = given; awaits = Some option }) (o ∷ os) → (option_word (setting unit named) given option o >>= λ more. Ok (complete more)) ≡ Ok d → Holds named d os
unfolding is_named
awaited-holds unit named given option o os d holds is =
    gave (λ d. Holds named d os) (option_word (setting unit named) given option o) complete d
    (λ more read.
    let next = option-behind named option given more holds.given (becomes (setting unit named) given option o more read) in
    record { given = next.given; waits = tt; stands = λ apt. by_case more next (holds.stands apt) }) is
  where
    by_case : (more : Given) → IsBehind named (is_for_name option) given more → HasName given.name ⊎ ((◌≡◌ {A = Option SdcOption} (Some option) (Some Name)) ⊎ (is_named CreateClock (takes_word option) (o ∷ os) ≡ true))
        → HasName more.name ⊎ ((◌≡◌ {A = Option SdcOption} None (Some Name)) ⊎ (is_named CreateClock false os ≡ true))
    by_case more next (inl has) = inl (next.keeps has)
    by_case more next (inr (inl waits)) = inl (next.has (let same : option ≡ Name = cc in ap is_for_name same))
    by_case more next (inr (inr later)) = inr (inr (behind_owned (takes_word option) holds.waits later))
      where
        behind_owned : (owned : Bool) → owned ≡ true → is_named CreateClock owned (o ∷ os) ≡ true → is_named CreateClock false os ≡ true
        behind_owned true apt later = later
        behind_owned false apt later = absurd (true≢false (sym apt))

or-cases : {P : Type 0} (a b : Bool) → a || b ≡ true → (a ≡ true → P) → (b ≡ true → P) → P
or-cases true b is left right = left refl
or-cases false b is left right = right is

-- an option begins
begun-holds : (named : Bool) (given : Given) (o : Opened) (os : List Opened) (d : Collected) (found : Option SdcOption) → option_of CreateClock o.word.text ≡ found → is_option o.word ≡ true
    → Holds named (record { given = given; awaits = None }) (o ∷ os) → begun_option given o found ≡ Ok d → Holds named d os
unfolding is_named
begun-holds named given o os d None found optional holds is = (let no : ⊥ = cc in absurd no)
begun-holds named given o os d (Some option) found optional holds is =
    by_refusal (has given.seen option || excludes given.seen option) is
  where
    next : Collected
    next = record { given = record given { seen = with_option option given.seen }; awaits = if takes_word option then Some option else None }

    waits : (b : Bool) → takes_word option ≡ b → IfThere (λ option. takes_word option ≡ true) (if b then Some option else None)
    waits true e = e
    waits false e = tt

    owner : (b : Bool) → takes_word option ≡ b → awaits_word (if b then Some option else None) ≡ b
    owner true e = e
    owner false e = refl

    later : is_named CreateClock false (o ∷ os) ≡ true → (next.awaits ≡ Some Name) ⊎ (is_named CreateClock (awaits_word next.awaits) os ≡ true)
    later named_by = or-cases (is_name_option false o) (is_named CreateClock (owns_next CreateClock false o) os) named_by
        (λ here. inl (name_waits here))
        (λ behind. inr (subst (λ b. is_named CreateClock b os ≡ true) owned behind))
      where
        owned : owns_next CreateClock false o ≡ awaits_word next.awaits
        owned = rw (optional, found) (sym (owner (takes_word option) refl))

        name_waits : is_name_option false o ≡ true → next.awaits ≡ Some Name
        name_waits here =
            let text : o.word.text ≡ codes "-name" = (bytes_eq-Decides o.word.text (codes "-name")).0 (rw optional at here) in
            let is_name : option ≡ Name = (let same : Some option ≡ Some Name = sym found ∙ ap (option_of CreateClock) text in cc) in
            rw is_name refl

    holds_next : Holds named next os
    holds_next = record {
      given = record { name = holds.given.name; objects = holds.given.objects };
      waits = waits (takes_word option) refl;
      stands = λ apt. by_case (holds.stands apt);
    }
      where
        by_case : HasName given.name ⊎ ((◌≡◌ {A = Option SdcOption} None (Some Name)) ⊎ (is_named CreateClock false (o ∷ os) ≡ true)) → HasName next.given.name ⊎ ((next.awaits ≡ Some Name) ⊎ (is_named CreateClock (awaits_word next.awaits) os ≡ true))
        by_case (inl has) = inl has
        by_case (inr (inl none)) = (let no : ⊥ = cc in absurd no)
        by_case (inr (inr named_by)) = inr (later named_by)

    by_refusal : (refused : Bool) → ◌≡◌ {A = Answer Collected} (if refused then Err (Syntax o.word.at) else Ok next) (Ok d) → Holds named d os
    by_refusal true is = (let no : ⊥ = cc in absurd no)
    by_refusal false is = answered (λ d. Holds named d os) next d holds_next is

-- a word that is no option
value-holds : (unit : TimeUnit) (named : Bool) (given : Given) (o : Opened) (os : List Opened) (d : Collected) → is_option o.word ≡ false
    → Holds named (record { given = given; awaits = None }) (o ∷ os) → (value (setting unit named) given o >>= λ more. Ok (complete more)) ≡ Ok d → Holds named d os
unfolding is_named
value-holds unit named given o os d plain holds is =
    gave (λ d. Holds named d os) (value (setting unit named) given o) complete d
    (λ more read.
    let next = value-behind unit named given o more holds.given read in
    record { given = next.given; waits = tt; stands = λ apt. by_case more next (holds.stands apt) }) is
  where
    later : is_named CreateClock false (o ∷ os) ≡ true → is_named CreateClock false os ≡ true
    later named_by = rw plain at named_by

    by_case : (more : Given) → IsBehindValue named given more → HasName given.name ⊎ ((◌≡◌ {A = Option SdcOption} None (Some Name)) ⊎ (is_named CreateClock false (o ∷ os) ≡ true))
        → HasName more.name ⊎ ((◌≡◌ {A = Option SdcOption} None (Some Name)) ⊎ (is_named CreateClock false os ≡ true))
    by_case more next (inl has) = inl (next.keeps has)
    by_case more next (inr (inl none)) = (let no : ⊥ = cc in absurd no)
    by_case more next (inr (inr named_by)) = inr (inr (later named_by))

step-holds : (unit : TimeUnit) (named : Bool) (c d : Collected) (o : Opened) (os : List Opened) → Holds named c (o ∷ os) → collected (setting unit named) c o ≡ Ok d → Holds named d os
unfolding collected option
step-holds unit named c d o os holds is = by_waiting c.awaits (subst (λ x. Holds named x (o ∷ os)) refl holds) is
  where
    by_option : (b : Bool) → is_option o.word ≡ b → Holds named (record { given = c.given; awaits = None }) (o ∷ os)
        → (if b then begun_option c.given o (option_of CreateClock o.word.text) else (value (setting unit named) c.given o >>= λ more. Ok (complete more))) ≡ Ok d → Holds named d os
    by_option true e holds is = begun-holds named c.given o os d (option_of CreateClock o.word.text) refl e holds is
    by_option false e holds is = value-holds unit named c.given o os d e holds is

    by_waiting : (awaits : Option SdcOption) → Holds named (record { given = c.given; awaits = awaits }) (o ∷ os) → collected_by (setting unit named) c.given awaits o ≡ Ok d → Holds named d os
    by_waiting (Some option) holds is = awaited-holds unit named c.given option o os d holds is
    by_waiting None holds is = by_option (is_option o.word) refl holds is

pub all-holds : (unit : TimeUnit) (named : Bool) (c last : Collected) (os : List Opened) → Holds named c os → collected_all (setting unit named) c os ≡ Ok last → Holds named last []
unfolding collected_all
all-holds unit named c last [] holds is = answered (λ d. Holds named d []) c last holds is
all-holds unit named c last (o ∷ os) holds is =
    behind (λ d. Holds named d []) (collected (setting unit named) c o) (λ more. collected_all (setting unit named) more os) last
    (λ more read last is. all-holds unit named more last os (step-holds unit named c more o os holds read) is) is

-- before the first word
pub first-holds : (os : List Opened) → Holds (is_named CreateClock false os) (complete nothing_given) os
first-holds os = record { given = record { name = tt; objects = λ apart. tt }; waits = tt; stands = λ apt. inr (inr apt) }
