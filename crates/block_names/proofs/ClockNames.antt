-- The names of clocks differ: those that commands make, and those of a block's file.
use Rattle.std.specs.Prelude.{◌≡◌, ℕ, ℤ, Bool, true, false, List, [], ◌∷◌, ◌++◌, All, Option, Some, None, Ok, Err, if◌then◌else◌, slice_index_or}
use Rattle.std.specs.Str.{bytes_eq}
use Rattle.std.proofs.Common.{refl, sym, ◌∙◌, ap, subst, arith}
use Rattle.std.proofs.lemmas.List.Quantifiers.{all_pairs_push}
use Rattle.bud_base.proofs.FindLemmas.{position_from-none}
use Rattle.bud_syntax.specs.declared.constraints.Object.{Object}
use Rattle.bud_syntax.specs.declared.constraints.SdcCommand.{SdcCommand}
use Rattle.bud_syntax.specs.declared.constraints.SdcCommand.TheVariants as command
use Rattle.bud_design.specs.declared.clocks.Clock.{Clock}
use Rattle.bud_design.specs.declared.clocks.Exception.{Exception}
use Rattle.bud_design.specs.declared.clocks.ExceptionKind.{ExceptionKind}
use Rattle.bud_design.specs.declared.clocks.ExceptionKind.TheVariants.{FalsePath, Multicycle, MaxDelay}
use Rattle.bud_design.specs.declared.policies.NumberedCommand.{NumberedCommand}
use Rattle.bud_design.specs.Clocks.{clock_called}
use Rattle.timing_objects.specs.declared.faults.ResolveFault.TheVariants.{ClockTwice, BadWaveform}
use Rattle.timing_objects.specs.declared.things.Role.TheVariants.{Source, Input, Output}
use Rattle.timing_objects.specs.Answers.{Answer, ◌>>=◌}
use Rattle.timing_objects.specs.Objects.{Subject}
use Rattle.timing_scopes.specs.declared.scopes.Scope.{Scope}
use Rattle.timing_scopes.specs.Resolving.{pins_named, is_waveform, unless_called, new_clock, with_clock, new_exception, with_exception, new_delays, with_command, resolved_from, resolved}
use Rattle.requirements.proofs.JudgedLaws.{ok-same, err-ok, then-ok}
use Rattle.block_names.specs.ClockNames.{NamesDiffer}

-- a name that no clock has
not-called : (clocks : List Clock) (name : List ℕ) (cs : List Clock) → unless_called clocks name ≡ Ok cs → All (λ (c : Clock). bytes_eq c.name name ≡ false) clocks
not-called clocks name cs e = by_call (clock_called clocks name) refl
  where
    by_call : (o : Option ℕ) → clock_called clocks name ≡ o → All (λ (c : Clock). bytes_eq c.name name ≡ false) clocks
    by_call None none = position_from-none (λ (c : Clock). bytes_eq c.name name) 0 clocks none
    by_call (Some k) some = (let same : unless_called clocks name ≡ Err (ClockTwice name) = rw some refl in err-ok (ClockTwice name) cs (sym same ∙ e))

made-name : (b : Bool) (k c : Clock) (name : List ℕ) → k.name ≡ name → ◌≡◌ {A = Answer Clock} (if b then Ok k else Err (BadWaveform name)) (Ok c) → c.name ≡ name
made-name true k c name is e = ap (λ (a : Clock). a.name) (sym (ok-same k c e)) ∙ is
made-name false k c name is e = err-ok (BadWaveform name) c e

clock-step : (s : Subject) (scope scope' : Scope) (name : List ℕ) (period rise fall : ℤ) (objects : List Object) → with_clock s scope name period rise fall objects ≡ Ok scope' → NamesDiffer scope.clocks → NamesDiffer scope'.clocks
clock-step s scope scope' name period rise fall objects e differ =
    let made = then-ok (new_clock s scope.clocks name period rise fall objects) (λ clock. Ok (record scope { clocks = scope.clocks ++ clock ∷ [] })) scope' e in
    let free = then-ok (unless_called scope.clocks name) (λ cs. pins_named s Source cs objects >>= λ pins. if is_waveform period rise fall then Ok (record { name = name; period = period; rise = rise; fall = fall; sources = pins }) else Err (BadWaveform name)) made.0 made.1.0 in
    let pins = then-ok (pins_named s Source free.0 objects) (λ pins. if is_waveform period rise fall then Ok (record { name = name; period = period; rise = rise; fall = fall; sources = pins }) else Err (BadWaveform name)) made.0 free.1.1 in
    let named : made.0.name ≡ name = made-name (is_waveform period rise fall) (record { name = name; period = period; rise = rise; fall = fall; sources = pins.0 }) made.0 name refl pins.1.1 in
    let none = not-called scope.clocks name free.0 free.1.0 in
    subst (λ (x : Scope). NamesDiffer x.clocks) (ok-same (record scope { clocks = scope.clocks ++ made.0 ∷ [] }) scope' made.1.1)
    (all_pairs_push (λ (a b : Clock). bytes_eq a.name b.name ≡ false) scope.clocks made.0 differ (λ k d below. ap (bytes_eq (slice_index_or scope.clocks k d).name) named ∙ none k d below))

-- an exception changes no clock
pub exception-step : (s : Subject) (scope scope' : Scope) (setup : Bool) (number : ℕ) (kind : ExceptionKind) (from : Option (List Object)) (groups : List (List Object)) (to : Option (List Object))
    → with_exception s scope setup number kind from groups to ≡ Ok scope' → scope.clocks ≡ scope'.clocks
exception-step s scope scope' setup number kind from groups to e =
    (let made = then-ok (new_exception s scope.clocks number kind from groups to) (λ x. Ok (if setup then record scope { exceptions = scope.exceptions ++ x ∷ [] } else scope)) scope' e in by_setup setup made.0 made.1.1)
  where
    by_setup : (b : Bool) (x : Exception) → ◌≡◌ {A = Answer Scope} (Ok (if b then record scope { exceptions = scope.exceptions ++ x ∷ [] } else scope)) (Ok scope') → scope.clocks ≡ scope'.clocks
    by_setup true x is = ap (λ (s : Scope). s.clocks) (ok-same (record scope { exceptions = scope.exceptions ++ x ∷ [] }) scope' is)
    by_setup false x is = ap (λ (s : Scope). s.clocks) (ok-same scope scope' is)

command-step : (s : Subject) (scope scope' : Scope) (number : ℕ) (c : SdcCommand) → with_command s scope number c ≡ Ok scope' → NamesDiffer scope.clocks → NamesDiffer scope'.clocks
command-step s scope scope' number (command.Clock name period rise fall sources) e differ = clock-step s scope scope' name period rise fall sources e differ
command-step s scope scope' number (command.InputDelay amount clock edge setup add ports) e differ =
    let made = then-ok (new_delays s Input scope.clocks scope.inputs amount clock edge setup add ports) (λ inputs. Ok (record scope { inputs = inputs })) scope' e in
    subst (λ (x : Scope). NamesDiffer x.clocks) (ok-same (record scope { inputs = made.0 }) scope' made.1.1) differ
command-step s scope scope' number (command.OutputDelay amount clock edge setup add ports) e differ =
    let made = then-ok (new_delays s Output scope.clocks scope.outputs amount clock edge setup add ports) (λ outputs. Ok (record scope { outputs = outputs })) scope' e in
    subst (λ (x : Scope). NamesDiffer x.clocks) (ok-same (record scope { outputs = made.0 }) scope' made.1.1) differ
command-step s scope scope' number (command.FalsePath setup from through to) e differ = subst NamesDiffer (exception-step s scope scope' setup number FalsePath from through to e) differ
command-step s scope scope' number (command.Multicycle count setup by_launch from through to) e differ =
    subst NamesDiffer (exception-step s scope scope' setup number (Multicycle count by_launch) from through to e) differ
command-step s scope scope' number (command.MaxDelay amount from through to) e differ = subst NamesDiffer (exception-step s scope scope' true number (MaxDelay amount) from through to e) differ

all-steps : (s : Subject) (commands : List NumberedCommand) (scope scope' : Scope) → resolved_from s scope commands ≡ Ok scope' → NamesDiffer scope.clocks → NamesDiffer scope'.clocks
all-steps s [] scope scope' e differ = subst (λ (x : Scope). NamesDiffer x.clocks) (ok-same scope scope' e) differ
all-steps s (c ∷ cs) scope scope' e differ =
    let next = then-ok (with_command s scope c.number c.command) (λ scope. resolved_from s scope cs) scope' e in
    all-steps s cs next.0 scope' next.1.1 (command-step s scope next.0 c.number c.command next.1.0 differ)

-- the names of the clocks that commands make differ
pub resolved-names : (s : Subject) (commands : List NumberedCommand) (scope : Scope) → resolved s commands ≡ Ok scope → NamesDiffer scope.clocks
resolved-names s commands scope e =
    all-steps s commands (record { clocks = []; inputs = []; outputs = []; exceptions = [] }) scope e (λ i j d less below. absurd (omega (arith, below)))
