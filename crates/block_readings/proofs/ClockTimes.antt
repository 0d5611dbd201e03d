-- The clocks that commands make have times such as are read.
use Rattle.std.specs.Prelude.{◌≡◌, ℕ, ℤ, Bool, true, false, List, [], ◌∷◌, ◌++◌, All, Ok, Err, if◌then◌else◌}
use Rattle.std.proofs.Common.{subst}
use Rattle.std.proofs.lemmas.List.Elements.{All-nil, All-head, All-tail, All-push}
use Rattle.bud_syntax.specs.declared.constraints.Object.{Object}
use Rattle.bud_syntax.specs.declared.constraints.SdcCommand.{SdcCommand}
use Rattle.bud_syntax.specs.declared.constraints.SdcCommand.TheVariants as command
use Rattle.bud_syntax.specs.Ranges.{IsReadTime, IsReadCommand}
use Rattle.bud_design.specs.declared.clocks.Clock.{Clock}
use Rattle.bud_design.specs.declared.clocks.ExceptionKind.TheVariants.{FalsePath, Multicycle, MaxDelay}
use Rattle.bud_design.specs.declared.policies.NumberedCommand.{NumberedCommand}
use Rattle.timing_objects.specs.declared.faults.ResolveFault.TheVariants.{BadWaveform}
use Rattle.timing_objects.specs.declared.things.Role.TheVariants.{Source, Input, Output}
use Rattle.timing_objects.specs.Answers.{Answer, ◌>>=◌}
use Rattle.timing_objects.specs.Objects.{Subject}
use Rattle.timing_scopes.specs.declared.scopes.Scope.{Scope}
use Rattle.timing_scopes.specs.Resolving.{pins_named, is_waveform, unless_called, new_clock, with_clock, new_delays, with_command, resolved_from, resolved}
use Rattle.requirements.proofs.JudgedLaws.{ok-same, err-ok, then-ok}
use Rattle.block_names.proofs.ClockNames.{exception-step}

pub record HasReadTimes (c : Clock) : Type 0 where
  pub period : IsReadTime c.period
  pub rise : IsReadTime c.rise
  pub fall : IsReadTime c.fall

made-times : (b : Bool) (k c : Clock) (name : List ℕ) → HasReadTimes k → ◌≡◌ {A = Answer Clock} (if b then Ok k else Err (BadWaveform name)) (Ok c) → HasReadTimes c
made-times true k c name has e = subst HasReadTimes (ok-same k c e) has
made-times false k c name has e = err-ok (BadWaveform name) c e

clock-step : (s : Subject) (scope scope' : Scope) (name : List ℕ) (period rise fall : ℤ) (objects : List Object) → with_clock s scope name period rise fall objects ≡ Ok scope'
    → IsReadTime period → IsReadTime rise → IsReadTime fall → All HasReadTimes scope.clocks → All HasReadTimes scope'.clocks
clock-step s scope scope' name period rise fall objects e isp isr isf all =
    let made = then-ok (new_clock s scope.clocks name period rise fall objects) (λ clock. Ok (record scope { clocks = scope.clocks ++ clock ∷ [] })) scope' e in
    let free = then-ok (unless_called scope.clocks name) (λ cs. pins_named s Source cs objects >>= λ pins. if is_waveform period rise fall then Ok (record { name = name; period = period; rise = rise; fall = fall; sources = pins }) else Err (BadWaveform name)) made.0 made.1.0 in
    let pins = then-ok (pins_named s Source free.0 objects) (λ pins. if is_waveform period rise fall then Ok (record { name = name; period = period; rise = rise; fall = fall; sources = pins }) else Err (BadWaveform name)) made.0 free.1.1 in
    let has = made-times (is_waveform period rise fall) (record { name = name; period = period; rise = rise; fall = fall; sources = pins.0 }) made.0 name (record { period = isp; rise = isr; fall = isf }) pins.1.1 in
    subst (λ (x : Scope). All HasReadTimes x.clocks) (ok-same (record scope { clocks = scope.clocks ++ made.0 ∷ [] }) scope' made.1.1) (All-push HasReadTimes scope.clocks made.0 all has)

command-step : (s : Subject) (scope scope' : Scope) (number : ℕ) (c : SdcCommand) → with_command s scope number c ≡ Ok scope' → IsReadCommand c → All HasReadTimes scope.clocks → All HasReadTimes scope'.clocks
command-step s scope scope' number (command.Clock name period rise fall sources) e is all = clock-step s scope scope' name period rise fall sources e is.0 is.1 is.2 all
command-step s scope scope' number (command.InputDelay amount clock edge setup add ports) e is all =
    let made = then-ok (new_delays s Input scope.clocks scope.inputs amount clock edge setup add ports) (λ inputs. Ok (record scope { inputs = inputs })) scope' e in
    subst (λ (x : Scope). All HasReadTimes x.clocks) (ok-same (record scope { inputs = made.0 }) scope' made.1.1) all
command-step s scope scope' number (command.OutputDelay amount clock edge setup add ports) e is all =
    let made = then-ok (new_delays s Output scope.clocks scope.outputs amount clock edge setup add ports) (λ outputs. Ok (record scope { outputs = outputs })) scope' e in
    subst (λ (x : Scope). All HasReadTimes x.clocks) (ok-same (record scope { outputs = made.0 }) scope' made.1.1) all
command-step s scope scope' number (command.FalsePath setup from through to) e is all = subst (All HasReadTimes) (exception-step s scope scope' setup number FalsePath from through to e) all
command-step s scope scope' number (command.Multicycle count setup by_launch from through to) e is all =
    subst (All HasReadTimes) (exception-step s scope scope' setup number (Multicycle count by_launch) from through to e) all
command-step s scope scope' number (command.MaxDelay amount from through to) e is all = subst (All HasReadTimes) (exception-step s scope scope' true number (MaxDelay amount) from through to e) all

all-steps : (s : Subject) (commands : List NumberedCommand) (scope scope' : Scope) → resolved_from s scope commands ≡ Ok scope' → All (λ c. IsReadCommand c.command) commands → All HasReadTimes scope.clocks
    → All HasReadTimes scope'.clocks
all-steps s [] scope scope' e are all = subst (λ (x : Scope). All HasReadTimes x.clocks) (ok-same scope scope' e) all
all-steps s (c ∷ cs) scope scope' e are all =
    let next = then-ok (with_command s scope c.number c.command) (λ scope. resolved_from s scope cs) scope' e in
    all-steps s cs next.0 scope' next.1.1 (All-tail (λ c. IsReadCommand c.command) c cs are)
    (command-step s scope next.0 c.number c.command next.1.0 (All-head (λ c. IsReadCommand c.command) c cs are) all)

pub resolved-times : (s : Subject) (commands : List NumberedCommand) (scope : Scope) → resolved s commands ≡ Ok scope → All (λ c. IsReadCommand c.command) commands → All HasReadTimes scope.clocks
resolved-times s commands scope e are = all-steps s commands (record { clocks = []; inputs = []; outputs = []; exceptions = [] }) scope e are (All-nil HasReadTimes)
