-- The clocks that commands make have the names that the commands give.
use Rattle.std.proofs.Common.{◌≡◌, ℕ, ℤ, Bool, true, false, List, [], ◌∷◌, ◌++◌, Option, Ok, Err, All, refl, sym, subst, if◌then◌else◌}
use Rattle.std.proofs.lemmas.List.Elements.{All-nil, All-cons, All-append, All-head, All-tail}
use Rattle.bud_syntax.specs.declared.constraints.Object.{Object}
use Rattle.bud_syntax.specs.declared.constraints.SdcCommand.{SdcCommand}
use Rattle.bud_syntax.specs.declared.constraints.SdcCommand.TheVariants as command
use Rattle.bud_design.specs.declared.clocks.Clock.{Clock}
use Rattle.bud_design.specs.declared.clocks.Constraints.{Constraints}
use Rattle.bud_design.specs.declared.clocks.Exception.{Exception}
use Rattle.bud_design.specs.declared.clocks.ExceptionKind.{ExceptionKind}
use Rattle.bud_design.specs.declared.clocks.ExceptionKind.TheVariants.{FalsePath, Multicycle, MaxDelay}
use Rattle.bud_design.specs.declared.policies.NumberedCommand.{NumberedCommand}
use Rattle.clock_names.specs.ClockNames.{HasClockName}
use Rattle.requirements.specs.Constraining.{AreConstraints}
use Rattle.sdc_reader.specs.Words.{is_clock_name}
use Rattle.timing_objects.specs.declared.faults.ResolveFault.{ResolveFault}
use Rattle.timing_objects.specs.declared.faults.ResolveFault.TheVariants.{BadWaveform}
use Rattle.timing_objects.specs.declared.things.Role.TheVariants.{Source, Input, Output}
use Rattle.timing_objects.specs.Answers.{Answer, ◌>>=◌}
use Rattle.timing_objects.specs.Objects.{Subject}
use Rattle.timing_scopes.specs.Resolving.{unless_called, pins_named, is_waveform, new_clock, with_clock, new_exception, with_exception, new_delays, with_command, resolved_from}
use Rattle.timing_scopes.specs.declared.scopes.Scope.{Scope}

-- one step after the other: what holds behind both
behind : {A B : Type 0} (P : B → Type 0) (read : Answer A) (f : A → Answer B) (y : B) → ((x : A) → read ≡ Ok x → (z : B) → f x ≡ Ok z → P z) → (read >>= f) ≡ Ok y → P y
behind P (Ok x) f y holds is = holds x refl y is
behind P (Err fault) f y holds is = (let no : ⊥ = cc in absurd no)

-- a step that gives this
gave : {A B : Type 0} (P : B → Type 0) (read : Answer A) (f : A → B) (y : B) → ((x : A) → read ≡ Ok x → P (f x)) → (read >>= λ x. Ok (f x)) ≡ Ok y → P y
gave {A} {B} P read f y holds is = behind P read (λ x. Ok (f x)) y (λ x read_is z is. let same : f x ≡ z = cc in subst P same (holds x read_is)) is

abbrev IsNamed : Clock → Type 0
IsNamed c = is_clock_name c.name ≡ true

abbrev HasNamed : Scope → Type 0
HasNamed scope = All IsNamed scope.clocks

made : (fine : Bool) (clock c : Clock) (fault : ResolveFault) → IsNamed clock → ◌≡◌ {A = Answer Clock} (if fine then Ok clock else Err fault) (Ok c) → IsNamed c
made true clock c fault named is = (let same : clock ≡ c = cc in subst IsNamed same named)
made false clock c fault named is = (let no : ⊥ = cc in absurd no)

new-named : (s : Subject) (clocks : List Clock) (name : List ℕ) (period rise fall : ℤ) (sources : List Object) (c : Clock) → is_clock_name name ≡ true → new_clock s clocks name period rise fall sources ≡ Ok c → IsNamed c
new-named s clocks name period rise fall sources c named is =
    behind IsNamed (unless_called clocks name)
    (λ clocks. pins_named s Source clocks sources >>= λ pins. (if is_waveform period rise fall then Ok (record { name = name; period = period; rise = rise; fall = fall; sources = pins }) else Err (BadWaveform name))) c
    (λ clocks new c is. behind IsNamed (pins_named s Source clocks sources)
    (λ pins. if is_waveform period rise fall then Ok (record { name = name; period = period; rise = rise; fall = fall; sources = pins }) else Err (BadWaveform name)) c
    (λ pins found c is. made (is_waveform period rise fall) (record { name = name; period = period; rise = rise; fall = fall; sources = pins }) c (BadWaveform name) named is) is) is

clock-kept : (s : Subject) (scope after : Scope) (name : List ℕ) (period rise fall : ℤ) (sources : List Object) → is_clock_name name ≡ true → HasNamed scope → with_clock s scope name period rise fall sources ≡ Ok after → HasNamed after
clock-kept s scope after name period rise fall sources named all is =
    gave HasNamed (new_clock s scope.clocks name period rise fall sources) (λ clock. record scope { clocks = scope.clocks ++ clock ∷ [] }) after
    (λ clock new. All-append IsNamed scope.clocks (clock ∷ []) all (All-cons IsNamed clock [] (new-named s scope.clocks name period rise fall sources clock named new) (All-nil IsNamed))) is

exception-kept : (s : Subject) (scope after : Scope) (setup : Bool) (number : ℕ) (kind : ExceptionKind) (from : Option (List Object)) (groups : List (List Object)) (to : Option (List Object)) → HasNamed scope
    → with_exception s scope setup number kind from groups to ≡ Ok after → HasNamed after
exception-kept s scope after setup number kind from groups to all is =
    gave HasNamed (new_exception s scope.clocks number kind from groups to) (λ exception. if setup then record scope { exceptions = scope.exceptions ++ exception ∷ [] } else scope) after
    (λ exception new. either setup exception) is
  where
    either : (setup : Bool) (exception : Exception) → HasNamed (if setup then record scope { exceptions = scope.exceptions ++ exception ∷ [] } else scope)
    either true exception = all
    either false exception = all

command-kept : (s : Subject) (scope after : Scope) (number : ℕ) (c : SdcCommand) → HasClockName c → HasNamed scope → with_command s scope number c ≡ Ok after → HasNamed after
command-kept s scope after number (command.Clock name period rise fall sources) named all is = clock-kept s scope after name period rise fall sources named all is
command-kept s scope after number (command.InputDelay amount clock edge setup add ports) named all is =
    gave HasNamed (new_delays s Input scope.clocks scope.inputs amount clock edge setup add ports) (λ inputs. record scope { inputs = inputs }) after (λ inputs new. all) is
command-kept s scope after number (command.OutputDelay amount clock edge setup add ports) named all is =
    gave HasNamed (new_delays s Output scope.clocks scope.outputs amount clock edge setup add ports) (λ outputs. record scope { outputs = outputs }) after (λ outputs new. all) is
command-kept s scope after number (command.FalsePath setup from through to) named all is = exception-kept s scope after setup number FalsePath from through to all is
command-kept s scope after number (command.Multicycle count setup by_launch from through to) named all is = exception-kept s scope after setup number (Multicycle count by_launch) from through to all is
command-kept s scope after number (command.MaxDelay amount from through to) named all is = exception-kept s scope after true number (MaxDelay amount) from through to all is

abbrev Named : NumberedCommand → Type 0
Named c = HasClockName c.command

all-kept : (s : Subject) (scope after : Scope) (cs : List NumberedCommand) → All Named cs → HasNamed scope → resolved_from s scope cs ≡ Ok after → HasNamed after
all-kept s scope after [] named all is = (let same : scope ≡ after = cc in subst HasNamed same all)
all-kept s scope after (c ∷ cs) named all is =
    behind HasNamed (with_command s scope c.number c.command) (λ scope. resolved_from s scope cs) after
    (λ next one after is. all-kept s next after cs (All-tail Named c cs named) (command-kept s scope next c.number c.command (All-head Named c cs named) all one) is) is

pub constraints_named : (s : Subject) (commands : List NumberedCommand) (all : Constraints) → All (λ c. HasClockName c.command) commands → AreConstraints s commands all → All (λ c. is_clock_name c.name ≡ true) all.clocks
constraints_named s commands all named are =
    subst (All IsNamed) (sym are.clocks) (all-kept s (record { clocks = []; inputs = []; outputs = []; exceptions = [] }) are.scope commands named (All-nil IsNamed) are.says)
