-- What timing commands, in their order, say of a design below a root, or the first refusal.
use Rattle.std.specs.Prelude.{ℕ, ◌==◌, ◌&&◌, not, ℤ, pos, ◌+ℤ◌, int_le, int_lt, Bool, true, false, List, [], ◌∷◌, ◌++◌, map, filter, flat_map, is_some, Option, Some, None, Ok, Err, if◌then◌else◌, ok_or}
use Rattle.std.specs.List.{list_any}
use Rattle.bud_base.specs.declared.ids.PinId.{PinId}
use Rattle.bud_syntax.specs.declared.edges.Edge.{Edge}
use Rattle.bud_syntax.specs.declared.constraints.Object.{Object}
use Rattle.bud_syntax.specs.declared.constraints.SdcCommand.{SdcCommand}
use Rattle.bud_syntax.specs.declared.constraints.SdcCommand.TheVariants as command
use Rattle.bud_design.specs.declared.clocks.Clock.{Clock}
use Rattle.bud_design.specs.declared.clocks.Marks.{Marks}
use Rattle.bud_design.specs.declared.clocks.Exception.{Exception}
use Rattle.bud_design.specs.declared.clocks.ExceptionKind.{ExceptionKind}
use Rattle.bud_design.specs.declared.clocks.ExceptionKind.TheVariants.{FalsePath, Multicycle, MaxDelay}
use Rattle.bud_design.specs.declared.policies.NumberedCommand.{NumberedCommand}
use Rattle.bud_design.specs.Clocks.{clock_called}
use Rattle.bud_design.specs.Exceptions.{has_pin}
use Rattle.bud_design.specs.Orders.{same_edge}
use Rattle.timing_objects.specs.declared.faults.ResolveFault.TheVariants.{UnknownClock, ClockTwice, BadWaveform}
use Rattle.timing_objects.specs.declared.things.Role.{Role}
use Rattle.timing_objects.specs.declared.things.Role.TheVariants.{Source, Input, Output, Start, End, Through}
use Rattle.timing_objects.specs.Answers.{Answer, ◌>>=◌, each}
use Rattle.timing_objects.specs.Objects.{Subject, things_in, pins_in, marks_of}
use Rattle.timing_scopes.specs.declared.scopes.PinDelay.{PinDelay}
use Rattle.timing_scopes.specs.declared.scopes.Scope.{Scope}

abbrev pub clock_of : List Clock → List ℕ → Answer ℕ
clock_of clocks name = ok_or (clock_called clocks name) (UnknownClock name)

-- the pins that objects give a command that names them so, up to the first refusal
abbrev pub pins_named : Subject → Role → List Clock → List Object → Answer (List PinId)
pins_named s role clocks objects = do
  things ← each (things_in s role clocks) objects
  Ok (flat_map (pins_in s role) things)

-- ---- delays at ports
abbrev pub same_place : PinDelay → PinDelay → Bool
same_place x y = x.pin.0 == y.pin.0 && (x.clock == y.clock && same_edge x.edge y.edge)

abbrev pub raised : PinDelay → PinDelay → PinDelay
raised x y = if same_place x y && int_le y.amount x.amount then x else y

-- one delay more: for an equal pin, clock and edge the greater amount stands
abbrev pub with_delay : List PinDelay → PinDelay → List PinDelay
with_delay delays x = if list_any (same_place x) delays then map (raised x) delays else delays ++ x ∷ []

abbrev pub with_delays : List PinDelay → List PinDelay → List PinDelay
with_delays delays [] = delays
with_delays delays (x ∷ xs) = with_delays (with_delay delays x) xs

-- a command that doesn't add removes the delays at its ports
abbrev pub kept : Bool → List PinId → List PinDelay → List PinDelay
kept true pins delays = delays
kept false pins delays = filter (λ x. not (has_pin pins x.pin.0)) delays

abbrev pub delay_at : ℕ → Edge → ℤ → PinId → PinDelay
delay_at clock edge amount pin = record { pin = pin; clock = clock; edge = edge; amount = amount }

abbrev pub delayed : Bool → List PinId → ℕ → Edge → ℤ → List PinDelay → List PinDelay
delayed add pins clock edge amount delays = with_delays (kept add pins delays) (map (delay_at clock edge amount) pins)

-- ---- commands
abbrev pub is_waveform : ℤ → ℤ → ℤ → Bool
is_waveform period rise fall = int_le (pos 2) period && (int_lt rise fall && int_lt fall (rise +ℤ period))

abbrev pub unless_called : List Clock → List ℕ → Answer (List Clock)
unless_called clocks name = if is_some (clock_called clocks name) then Err (ClockTwice name) else Ok clocks

-- a clock: its name first, then its sources, then its waveform
abbrev pub new_clock : Subject → List Clock → List ℕ → ℤ → ℤ → ℤ → List Object → Answer Clock
new_clock s clocks name period rise fall sources = do
  clocks ← unless_called clocks name
  pins ← pins_named s Source clocks sources
  if is_waveform period rise fall
      then Ok (record { name = name; period = period; rise = rise; fall = fall; sources = pins })
      else Err (BadWaveform name)

abbrev pub with_clock : Subject → Scope → List ℕ → ℤ → ℤ → ℤ → List Object → Answer Scope
with_clock s scope name period rise fall sources = do
  clock ← new_clock s scope.clocks name period rise fall sources
  Ok (record scope { clocks = scope.clocks ++ clock ∷ [] })

-- a part: None where there is none
abbrev pub part_of : Subject → Role → List Clock → Option (List Object) → Answer (Option Marks)
part_of s role clocks None = Ok None
part_of s role clocks (Some objects) = do
  things ← each (things_in s role clocks) objects
  Ok (Some (marks_of s role things))

abbrev pub group_of : Subject → List Clock → List Object → Answer (List (List PinId))
group_of s clocks objects = do
  pins ← pins_named s Through clocks objects
  Ok (pins ∷ [])

-- an exception: its from-part first, then its groups, then its to-part
abbrev pub new_exception : Subject → List Clock → ℕ → ExceptionKind → Option (List Object) → List (List Object) → Option (List Object) → Answer Exception
new_exception s clocks number kind from groups to = do
  start ← part_of s Start clocks from
  pins ← each (group_of s clocks) groups
  end ← part_of s End clocks to
  Ok (record { number = number; kind = kind; from = start; groups = pins; to = end })

-- one of hold checks alone has no effect
abbrev pub with_exception : Subject → Scope → Bool → ℕ → ExceptionKind → Option (List Object) → List (List Object) → Option (List Object) → Answer Scope
with_exception s scope setup number kind from groups to = do
  exception ← new_exception s scope.clocks number kind from groups to
  Ok (if setup then record scope { exceptions = scope.exceptions ++ exception ∷ [] } else scope)

abbrev pub new_delays : Subject → Role → List Clock → List PinDelay → ℤ → List ℕ → Edge → Bool → Bool → List Object → Answer (List PinDelay)
new_delays s role clocks delays amount clock edge setup add ports = do
  c ← clock_of clocks clock
  pins ← pins_named s role clocks ports
  Ok (if setup then delayed add pins c edge amount delays else delays)

abbrev pub with_input : Subject → Scope → ℤ → List ℕ → Edge → Bool → Bool → List Object → Answer Scope
with_input s scope amount clock edge setup add ports = do
  inputs ← new_delays s Input scope.clocks scope.inputs amount clock edge setup add ports
  Ok (record scope { inputs = inputs })

abbrev pub with_output : Subject → Scope → ℤ → List ℕ → Edge → Bool → Bool → List Object → Answer Scope
with_output s scope amount clock edge setup add ports = do
  outputs ← new_delays s Output scope.clocks scope.outputs amount clock edge setup add ports
  Ok (record scope { outputs = outputs })

-- one command more
abbrev pub with_command : Subject → Scope → ℕ → SdcCommand → Answer Scope
with_command s scope number (command.Clock name period rise fall sources) = with_clock s scope name period rise fall sources
with_command s scope number (command.InputDelay amount clock edge setup add ports) = with_input s scope amount clock edge setup add ports
with_command s scope number (command.OutputDelay amount clock edge setup add ports) = with_output s scope amount clock edge setup add ports
with_command s scope number (command.FalsePath setup from through to) = with_exception s scope setup number FalsePath from through to
with_command s scope number (command.Multicycle count setup by_launch from through to) = with_exception s scope setup number (Multicycle count by_launch) from through to
with_command s scope number (command.MaxDelay amount from through to) = with_exception s scope true number (MaxDelay amount) from through to

abbrev pub resolved_from : Subject → Scope → List NumberedCommand → Answer Scope
resolved_from s scope [] = Ok scope
resolved_from s scope (c ∷ cs) = do
  scope ← with_command s scope c.number c.command
  resolved_from s scope cs

-- what the commands say, or the first refusal of the first command that has one
abbrev pub resolved : Subject → List NumberedCommand → Answer Scope
resolved s commands = resolved_from s (record { clocks = []; inputs = []; outputs = []; exceptions = [] }) commands
