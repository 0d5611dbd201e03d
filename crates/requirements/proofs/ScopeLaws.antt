-- Commands within the readers' ranges make a sound scope.
use Rattle.std.proofs.Common.{◌≡◌, ℕ, ◌<◌, ◌≤◌, ◌==◌, ◌&&◌, Bool, true, false, List, [], ◌∷◌, ◌++◌, length, get_or, Option, Some, None, Ok, Err, refl, sym, ◌∙◌, ap, subst, arith, true≢false, eq-eqb, inl, inr, ◌⊎◌}
use Rattle.std.specs.Prelude.{All, AllPairs, Contains, not, ℤ, pos, ◌+ℤ◌, int_le, int_lt, is_some, nat_lt, if◌then◌else◌}
use Rattle.std.specs.List.{list_any}
use Rattle.std.proofs.lemmas.Int.{ints}
use Rattle.std.proofs.lemmas.Bool.{cases_lt, lt-ltb}
use Rattle.std.proofs.lemmas.List.{length-append, get_or_append_left, get_or_push}
use Rattle.std.proofs.lemmas.List.Elements.{All-nil, All-head, All-tail, All-push, All-weaker, All-contains}
use Rattle.std.proofs.lemmas.List.Quantifiers.{all_pairs_push}
use Rattle.bud_base.specs.declared.ids.PinId.{PinId}
use Rattle.bud_syntax.specs.declared.constraints.Object.{Object}
use Rattle.bud_syntax.specs.declared.constraints.SdcCommand.{SdcCommand}
use Rattle.bud_syntax.specs.declared.constraints.SdcCommand.TheVariants as command
use Rattle.bud_syntax.specs.Ranges.{IsReadTime, IsReadCommand}
use Rattle.bud_design.specs.declared.clocks.Clock.{Clock}
use Rattle.bud_design.specs.declared.clocks.Exception.{Exception}
use Rattle.bud_design.specs.declared.clocks.ExceptionKind.{ExceptionKind}
use Rattle.bud_design.specs.declared.clocks.ExceptionKind.TheVariants.{FalsePath, Multicycle, MaxDelay}
use Rattle.bud_design.specs.declared.clocks.Marks.{Marks}
use Rattle.bud_design.specs.declared.policies.NumberedCommand.{NumberedCommand}
use Rattle.bud_design.specs.Clocks.{IsSoundClock, clock_at, clock_called}
use Rattle.bud_design.specs.ConstraintRules.{IsSoundKind, AreMarksBelow, HasMarksBelow}
use Rattle.bud_design.proofs.ClassLaws.{pairs-head, pairs-tail}
use Rattle.clock_reach.specs.Walks.{HasSource}
use Rattle.clock_reach.proofs.ReachLaws.{place-any}
use Rattle.timing_objects.specs.declared.faults.ResolveFault.TheVariants.{ClockTwice, BadWaveform}
use Rattle.timing_objects.specs.declared.things.Role.{Role}
use Rattle.timing_objects.specs.declared.things.Role.TheVariants.{Source, Input, Output, Start, End}
use Rattle.timing_objects.specs.declared.things.Thing.TheVariants as thing
use Rattle.timing_objects.specs.Answers.{Answer, ◌>>=◌, each}
use Rattle.timing_objects.specs.Objects.{Subject, has_source}
use Rattle.timing_scopes.specs.declared.scopes.PinDelay.{PinDelay}
use Rattle.timing_scopes.specs.declared.scopes.Scope.{Scope}
use Rattle.timing_scopes.specs.Resolving.{same_place, pins_named, is_waveform, unless_called, new_clock, with_clock, part_of, group_of, new_exception, with_exception, new_delays, with_command, resolved_from, resolved}
use Rattle.requirements.specs.SoundScopes.{IsPinAs, IsDelayAs, AreSoundClocks, AreSoundDelays, IsSoundScope}
use Rattle.requirements.proofs.JudgedLaws.{then-ok, ok-same, err-ok, and-left, and-right, IsPinJudged, named-judged, marks-below, groups-below}
use Rattle.requirements.proofs.DelayLaws.{new-sound}

-- ---- a clock more
wave-sound : (name : List ℕ) (period rise fall : ℤ) (sources : List PinId) → is_waveform period rise fall ≡ true → IsReadTime period
    → IsSoundClock (record { name = name; period = period; rise = rise; fall = fall; sources = sources })
wave-sound name period rise fall sources wave read =
    let long = and-left (int_le (pos 2) period) (int_lt rise fall && int_lt fall (rise +ℤ period)) wave in
    let rest = and-right (int_le (pos 2) period) (int_lt rise fall && int_lt fall (rise +ℤ period)) wave in
    let up = and-left (int_lt rise fall) (int_lt fall (rise +ℤ period)) rest in
    let down = and-right (int_lt rise fall) (int_lt fall (rise +ℤ period)) rest in
    record { shortest = grind (arith, ints, long); longest = read.high; in_order = grind (arith, ints, up); in_period = grind (arith, ints, down) }

-- a new clock: its edges make a waveform, and its sources are judged
pub record IsNewClock (s : Subject) (clocks : List Clock) (c : Clock) : Type 0 where
  pub wave : IsSoundClock c
  pub sources : All (IsPinJudged s Source clocks) c.sources

new-clock : (s : Subject) (clocks : List Clock) (name : List ℕ) (period rise fall : ℤ) (objects : List Object) (c : Clock) → IsReadTime period
    → new_clock s clocks name period rise fall objects ≡ Ok c → IsNewClock s clocks c
new-clock s clocks name period rise fall objects c read e =
    let free = then-ok (unless_called clocks name) (λ ks. pins_named s Source ks objects >>= λ pins. (if is_waveform period rise fall then Ok (record { name = name; period = period; rise = rise; fall = fall; sources = pins }) else Err (BadWaveform name))) c e in
    let same = unless-same (is_some (clock_called clocks name)) free.0 free.1.0 in
    let named = then-ok (pins_named s Source free.0 objects) (λ pins. (if is_waveform period rise fall then Ok (record { name = name; period = period; rise = rise; fall = fall; sources = pins }) else Err (BadWaveform name))) c free.1.1 in
    by_wave (is_waveform period rise fall) refl named.0 named.1.1
    (subst (λ ks. All (IsPinJudged s Source ks) named.0) (sym same) (named-judged s Source free.0 refl objects named.0 named.1.0))
  where
    unless-same : (b : Bool) (ks : List Clock) → ◌≡◌ {A = Answer (List Clock)} (if b then Err (ClockTwice name) else Ok clocks) (Ok ks) → clocks ≡ ks
    unless-same true ks e = err-ok (ClockTwice name) ks e
    unless-same false ks e = ok-same clocks ks e

    by_wave : (b : Bool) → is_waveform period rise fall ≡ b → (pins : List PinId)
        → ◌≡◌ {A = Answer Clock} (if b then Ok (record { name = name; period = period; rise = rise; fall = fall; sources = pins }) else Err (BadWaveform name)) (Ok c)
        → All (IsPinJudged s Source clocks) pins → IsNewClock s clocks c
    by_wave true wave pins e judged =
        subst (IsNewClock s clocks) (ok-same (record { name = name; period = period; rise = rise; fall = fall; sources = pins }) c e)
        (record { wave = wave-sound name period rise fall pins wave read; sources = judged })
    by_wave false wave pins e judged = err-ok (BadWaveform name) c e

-- a source of a clock is told by the search for it
source-told : (clocks : List Clock) (b v : ℕ) → HasSource clocks b v → list_any (λ c. list_any (λ p. p.0 == v) c.sources) clocks ≡ true
source-told clocks b v source =
    let inner : list_any (λ p. p.0 == v) (clock_at clocks b).sources ≡ true
    = place-any (λ (p : PinId). p.0 == v) (record { 0 = v }) (clock_at clocks b).sources source.1.0 source.1.1 (eq-eqb _ v (ap (λ (p : PinId). p.0) source.1.2)) in
    place-any (λ (c : Clock). list_any (λ p. p.0 == v) c.sources) _ clocks b source.0 inner

module _ (s : Subject) (clocks : List Clock) (c : Clock) (new : IsNewClock s clocks c) where
  -- a source of one of the clocks is one of an old clock's or of the new one's
  source-cases : (b v : ℕ) → HasSource (clocks ++ c ∷ []) b v → HasSource clocks b v ⊎ ((b ≡ length clocks) × Contains c.sources (record { 0 = v }))
  source-cases b v source = elim (cases_lt b (length clocks)) [
    | inl old ↦ inl (old, subst (λ (k : Clock). Contains k.sources (record { 0 = v })) (get_or_append_left clocks (c ∷ []) _ b old) source.1)
    | inr past ↦
        let last : b ≡ length clocks = omega (arith, past, source.0, length-append clocks (c ∷ [])) in
        inr (last, subst (λ (k : Clock). Contains k.sources (record { 0 = v })) (get_or_push clocks c _ b (sym last)) source.1)
  ]

  not-old : (b v : ℕ) → HasSource clocks b v → Contains c.sources (record { 0 = v }) → {P : Type 0} → P
  not-old b v old here =
      let free : not (has_source clocks (thing.Pin (record { 0 = v }))) ≡ true = (All-contains (IsPinJudged s Source clocks) c.sources (record { 0 = v }) new.sources here).free in
      absurd (true≢false (sym (sym (ap not (source-told clocks b v old)) ∙ free)))

  clocks-sound : AreSoundClocks s clocks → AreSoundClocks s (clocks ++ c ∷ [])
  clocks-sound sound = record {
    waves = All-push IsSoundClock clocks c sound.waves new.wave;
    sources = All-push (λ (k : Clock). All (IsPinAs s Source) k.sources) clocks c sound.sources (All-weaker (IsPinJudged s Source clocks) (IsPinAs s Source) (λ v j. j.pin) c.sources new.sources);
    apart = λ a b v one other. elim (source-cases a v one) [
      | inl old ↦ elim (source-cases b v other) [ inl both ↦ sound.apart a b v old both | inr last ↦ not-old a v old last.1 ]
      | inr last ↦ elim (source-cases b v other) [ inl old ↦ not-old b v old last.1 | inr both ↦ last.0 ∙ sym both.0 ]
    ];
  }

-- what holds by fewer clocks holds by more
delays-more : (s : Subject) (role : Role) (m n : ℕ) (delays : List PinDelay) → m ≤ n → AreSoundDelays s role m delays → AreSoundDelays s role n delays
delays-more s role m n delays less sound = record {
  each = All-weaker (IsDelayAs s role m) (IsDelayAs s role n) (λ x is. record { pin = is.pin; clock = omega (arith, is.clock, less); amount = is.amount }) delays sound.each;
  one = sound.one;
}

part-more : (pins m n : ℕ) (part : Option Marks) → m ≤ n → AreMarksBelow pins m part → AreMarksBelow pins n part
part-more pins m n None less below = tt
part-more pins m n (Some marks) less below = (below.0, All-weaker (λ c. c < m) (λ c. c < n) (λ c is. omega (arith, is, less)) marks.clocks below.1)

marks-more : (pins m n : ℕ) (e : Exception) → m ≤ n → HasMarksBelow pins m e → HasMarksBelow pins n e
marks-more pins m n e less marks = record { from = part-more pins m n e.from less marks.from; groups = marks.groups; to = part-more pins m n e.to less marks.to }

with-clock : (s : Subject) (scope scope' : Scope) (name : List ℕ) (period rise fall : ℤ) (objects : List Object) → IsReadTime period
    → with_clock s scope name period rise fall objects ≡ Ok scope' → IsSoundScope s scope → IsSoundScope s scope'
with-clock s scope scope' name period rise fall objects read e sound =
    let made = then-ok (new_clock s scope.clocks name period rise fall objects) (λ clock. Ok (record scope { clocks = scope.clocks ++ clock ∷ [] })) scope' e in
    let c = made.0 in
    let longer : length scope.clocks ≤ length (scope.clocks ++ c ∷ []) = omega (arith, length-append scope.clocks (c ∷ [])) in
    subst (IsSoundScope s) (ok-same (record scope { clocks = scope.clocks ++ c ∷ [] }) scope' made.1.1) (record {
      clocks = clocks-sound s scope.clocks c (new-clock s scope.clocks name period rise fall objects c read made.1.0) sound.clocks;
      inputs = delays-more s Input (length scope.clocks) (length (scope.clocks ++ c ∷ [])) scope.inputs longer sound.inputs;
      outputs = delays-more s Output (length scope.clocks) (length (scope.clocks ++ c ∷ [])) scope.outputs longer sound.outputs;
      marks = All-weaker (HasMarksBelow (length s.design.pins) (length scope.clocks)) (HasMarksBelow (length s.design.pins) (length (scope.clocks ++ c ∷ [])))
          (λ e marks. marks-more (length s.design.pins) (length scope.clocks) (length (scope.clocks ++ c ∷ [])) e longer marks) scope.exceptions sound.marks;
      kinds = sound.kinds;
    })

-- ---- an exception more
-- the exceptions are those before, or these and one of this number
abbrev pub IsOneMore : ℕ → List Exception → List Exception → Type 0
IsOneMore number old new = (new ≡ old) ⊎ ((e : Exception) × ((new ≡ old ++ e ∷ []) × (e.number ≡ number)))

-- what a step keeps: a sound scope, and its exceptions with one more at most
pub record IsStep (s : Subject) (number : ℕ) (scope scope' : Scope) : Type 0 where
  pub sound : IsSoundScope s scope'
  pub more : IsOneMore number scope.exceptions scope'.exceptions

abbrev ok_scope : Scope → Answer Scope
ok_scope scope = Ok scope

with-exception : (s : Subject) (scope scope' : Scope) (setup : Bool) (number : ℕ) (kind : ExceptionKind) (from : Option (List Object)) (groups : List (List Object)) (to : Option (List Object))
    → IsSoundKind kind → with_exception s scope setup number kind from groups to ≡ Ok scope' → IsSoundScope s scope → IsStep s number scope scope'
with-exception s scope scope' setup number kind from groups to sound_kind e sound =
    let made = then-ok (new_exception s scope.clocks number kind from groups to) (λ x. Ok (if setup then record scope { exceptions = scope.exceptions ++ x ∷ [] } else scope)) scope' e in
    let start = then-ok (part_of s Start scope.clocks from) (λ start. each (group_of s scope.clocks) groups >>= λ pins. part_of s End scope.clocks to >>= λ end. Ok (record { number = number; kind = kind; from = start; groups = pins; to = end })) made.0 made.1.0 in
    let pins = then-ok (each (group_of s scope.clocks) groups) (λ pins. part_of s End scope.clocks to >>= λ end. Ok (record { number = number; kind = kind; from = start.0; groups = pins; to = end })) made.0 start.1.1 in
    let end = then-ok (part_of s End scope.clocks to) (λ end. Ok (record { number = number; kind = kind; from = start.0; groups = pins.0; to = end })) made.0 pins.1.1 in
    let x : Exception = record { number = number; kind = kind; from = start.0; groups = pins.0; to = end.0 } in
    let same : x ≡ made.0 = ok-same x made.0 end.1.1 in
    let marks : HasMarksBelow (length s.design.pins) (length scope.clocks) x = record {
      from = marks-below s Start scope.clocks from start.0 start.1.0;
      groups = groups-below s scope.clocks groups pins.0 pins.1.0;
      to = marks-below s End scope.clocks to end.0 end.1.0;
    } in
    by_setup setup x marks sound_kind refl (ap (λ (y : Exception). ok_scope (if setup then record scope { exceptions = scope.exceptions ++ y ∷ [] } else scope)) same ∙ made.1.1)
  where
    by_setup : (b : Bool) (x : Exception) → HasMarksBelow (length s.design.pins) (length scope.clocks) x → IsSoundKind x.kind → x.number ≡ number
        → ◌≡◌ {A = Answer Scope} (Ok (if b then record scope { exceptions = scope.exceptions ++ x ∷ [] } else scope)) (Ok scope') → IsStep s number scope scope'
    by_setup true x marks sound_kind is e =
        subst (IsStep s number scope) (ok-same (record scope { exceptions = scope.exceptions ++ x ∷ [] }) scope' e) (record {
          sound = record {
            clocks = sound.clocks;
            inputs = sound.inputs;
            outputs = sound.outputs;
            marks = All-push (HasMarksBelow (length s.design.pins) (length scope.clocks)) scope.exceptions x sound.marks marks;
            kinds = All-push (λ (e : Exception). IsSoundKind e.kind) scope.exceptions x sound.kinds sound_kind;
          };
          more = inr (x, (refl, is));
        })
    by_setup false x marks sound_kind is e = subst (IsStep s number scope) (ok-same scope scope' e) (record { sound = sound; more = inl refl })

clock-keeps : (s : Subject) (scope scope' : Scope) (name : List ℕ) (period rise fall : ℤ) (objects : List Object) → with_clock s scope name period rise fall objects ≡ Ok scope' → scope'.exceptions ≡ scope.exceptions
clock-keeps s scope scope' name period rise fall objects e =
    let made = then-ok (new_clock s scope.clocks name period rise fall objects) (λ clock. Ok (record scope { clocks = scope.clocks ++ clock ∷ [] })) scope' e in
    sym (ap (λ (x : Scope). x.exceptions) (ok-same (record scope { clocks = scope.clocks ++ made.0 ∷ [] }) scope' made.1.1))

-- ---- a command more
step-sound : (s : Subject) (scope scope' : Scope) (number : ℕ) (c : SdcCommand) → IsReadCommand c → with_command s scope number c ≡ Ok scope' → IsSoundScope s scope → IsStep s number scope scope'
step-sound s scope scope' number (command.Clock name period rise fall sources) read e sound = record {
  sound = with-clock s scope scope' name period rise fall sources read.0 e sound;
  more = inl (clock-keeps s scope scope' name period rise fall sources e);
}
step-sound s scope scope' number (command.InputDelay amount clock edge setup add ports) read e sound =
    let made = then-ok (new_delays s Input scope.clocks scope.inputs amount clock edge setup add ports) (λ inputs. Ok (record scope { inputs = inputs })) scope' e in
    subst (IsStep s number scope) (ok-same (record scope { inputs = made.0 }) scope' made.1.1) (record {
      sound = record {
        clocks = sound.clocks;
        inputs = new-sound s Input scope.clocks scope.inputs made.0 amount clock edge setup add ports refl read made.1.0 sound.inputs;
        outputs = sound.outputs;
        marks = sound.marks;
        kinds = sound.kinds;
      };
      more = inl refl;
    })
step-sound s scope scope' number (command.OutputDelay amount clock edge setup add ports) read e sound =
    let made = then-ok (new_delays s Output scope.clocks scope.outputs amount clock edge setup add ports) (λ outputs. Ok (record scope { outputs = outputs })) scope' e in
    subst (IsStep s number scope) (ok-same (record scope { outputs = made.0 }) scope' made.1.1) (record {
      sound = record {
        clocks = sound.clocks;
        inputs = sound.inputs;
        outputs = new-sound s Output scope.clocks scope.outputs made.0 amount clock edge setup add ports refl read made.1.0 sound.outputs;
        marks = sound.marks;
        kinds = sound.kinds;
      };
      more = inl refl;
    })
step-sound s scope scope' number (command.FalsePath setup from through to) read e sound = with-exception s scope scope' setup number FalsePath from through to tt e sound
step-sound s scope scope' number (command.Multicycle count setup by_launch from through to) read e sound = with-exception s scope scope' setup number (Multicycle count by_launch) from through to read e sound
step-sound s scope scope' number (command.MaxDelay amount from through to) read e sound = with-exception s scope scope' true number (MaxDelay amount) from through to read e sound

-- ---- all commands
abbrev pub Rise : Exception → Exception → Type 0
Rise x y = nat_lt x.number y.number ≡ true

-- the exceptions' numbers rise, and those of the commands to come are greater
pub record AreBefore (exceptions : List Exception) (commands : List NumberedCommand) : Type 0 where
  pub rise : AllPairs Rise exceptions
  pub before : All (λ e. All (λ c. e.number < c.number) commands) exceptions

before-more : (number : ℕ) (old new : List Exception) (c : NumberedCommand) (cs : List NumberedCommand) → c.number ≡ number → All (λ d. c.number < d.number) cs
    → IsOneMore number old new → AreBefore old (c ∷ cs) → AreBefore new cs
before-more number old new c cs is above (inl same) so_far = subst (λ (es : List Exception). AreBefore es cs) (sym same) (record {
  rise = so_far.rise;
  before = All-weaker (λ (e : Exception). All (λ (d : NumberedCommand). e.number < d.number) (c ∷ cs)) (λ (e : Exception). All (λ (d : NumberedCommand). e.number < d.number) cs)
      (λ e all. All-tail (λ (d : NumberedCommand). e.number < d.number) c cs all) old so_far.before;
})
before-more number old new c cs is above (inr more) so_far =
    let e = more.0 in
    let old_before : All (λ (e : Exception). All (λ (d : NumberedCommand). e.number < d.number) cs) old
    = All-weaker (λ (e : Exception). All (λ (d : NumberedCommand). e.number < d.number) (c ∷ cs)) (λ (e : Exception). All (λ (d : NumberedCommand). e.number < d.number) cs)
    (λ e all. All-tail (λ (d : NumberedCommand). e.number < d.number) c cs all) old so_far.before in
    subst (λ (es : List Exception). AreBefore es cs) (sym more.1.0) (record {
      rise = all_pairs_push Rise old e so_far.rise
          (λ k d below. (let less = All-head (λ (x : NumberedCommand). (get_or old k d).number < x.number) c cs (so_far.before k d below) in lt-ltb (get_or old k d).number e.number (omega (arith, less, is, more.1.1))));
      before = All-push (λ (e : Exception). All (λ (d : NumberedCommand). e.number < d.number) cs) old e old_before
          (All-weaker (λ (d : NumberedCommand). c.number < d.number) (λ (d : NumberedCommand). e.number < d.number) (λ d less. omega (arith, less, is, more.1.1)) cs above);
    })

-- what the commands leave
pub record IsResult (s : Subject) (scope : Scope) : Type 0 where
  pub sound : IsSoundScope s scope
  pub rise : AllPairs Rise scope.exceptions

all-sound : (s : Subject) (commands : List NumberedCommand) (scope scope' : Scope) → All (λ c. IsReadCommand c.command) commands → AllPairs (λ a b. a.number < b.number) commands
    → IsSoundScope s scope → AreBefore scope.exceptions commands → resolved_from s scope commands ≡ Ok scope' → IsResult s scope'
all-sound s [] scope scope' read rise sound before e = subst (IsResult s) (ok-same scope scope' e) (record { sound = sound; rise = before.rise })
all-sound s (c ∷ cs) scope scope' read rise sound before e =
    let next = then-ok (with_command s scope c.number c.command) (λ scope. resolved_from s scope cs) scope' e in
    let step = step-sound s scope next.0 c.number c.command (All-head (λ (c : NumberedCommand). IsReadCommand c.command) c cs read) next.1.0 sound in
    all-sound s cs next.0 scope' (All-tail (λ (c : NumberedCommand). IsReadCommand c.command) c cs read) (pairs-tail (λ (a b : NumberedCommand). a.number < b.number) c cs rise) step.sound
    (before-more c.number scope.exceptions next.0.exceptions c cs refl (pairs-head (λ (a b : NumberedCommand). a.number < b.number) c cs rise) step.more before) next.1.1

none-pairs : {X : Type 0} (R : X → X → Type 0) → AllPairs R []
none-pairs R = λ i j d less below. absurd (omega (arith, below))

pub resolved-sound : (s : Subject) (commands : List NumberedCommand) (scope : Scope) → All (λ c. IsReadCommand c.command) commands → AllPairs (λ a b. a.number < b.number) commands
    → resolved s commands ≡ Ok scope → IsResult s scope
resolved-sound s commands scope read rise e =
    all-sound s commands (record { clocks = []; inputs = []; outputs = []; exceptions = [] }) scope read rise
    (record {
      clocks = record { waves = All-nil IsSoundClock; sources = All-nil (λ (c : Clock). All (IsPinAs s Source) c.sources); apart = λ b c v one other. absurd (omega (arith, one.0)) };
      inputs = record { each = All-nil (IsDelayAs s Input 0); one = none-pairs (λ x y. same_place x y ≡ false) };
      outputs = record { each = All-nil (IsDelayAs s Output 0); one = none-pairs (λ x y. same_place x y ≡ false) };
      marks = All-nil (HasMarksBelow (length s.design.pins) 0);
      kinds = All-nil (λ (e : Exception). IsSoundKind e.kind);
    })
    (record { rise = none-pairs Rise; before = All-nil (λ (e : Exception). All (λ (c : NumberedCommand). e.number < c.number) commands) }) e
