-- The launches and captures of a design below a root, and its resolved constraints.
use Rattle.std.specs.Prelude.{◌≡◌, ℕ, nat_lt, pos, ◌⊎◌, true, List, Contains, Result, Ok, Err}
use Rattle.bud_base.specs.declared.ids.PinId.{PinId}
use Rattle.bud_syntax.specs.declared.edges.Edge.{Edge}
use Rattle.bud_design.specs.declared.clocks.Launch.{Launch}
use Rattle.bud_design.specs.declared.clocks.Capture.{Capture}
use Rattle.bud_design.specs.declared.clocks.Constraints.{Constraints}
use Rattle.bud_design.specs.declared.policies.NumberedCommand.{NumberedCommand}
use Rattle.timing_objects.specs.declared.faults.ResolveFault.{ResolveFault}
use Rattle.timing_objects.specs.declared.faults.ResolveFault.TheVariants.{UnknownObject, UnknownClock, NotASource, NotAStart, NotAnEnd, NotAPin, ClockTwice, BadWaveform, NoMemory}
use Rattle.bud_design.specs.Clocks.{Reaches}
use Rattle.bud_design.specs.Designs.{is_pin_of}
use Rattle.bud_design.specs.Lists.{Lists}
use Rattle.timing_objects.specs.Objects.{Subject}
use Rattle.bud_design.specs.Orders.{launch_before, capture_before}
use Rattle.timing_scopes.specs.declared.scopes.Scope.{Scope}
use Rattle.timing_scopes.specs.Resolving.{resolved}

-- a launch at an input port bit
abbrev pub IsPortLaunch : Scope → Launch → Type 0
IsPortLaunch scope l = Contains scope.inputs (record { pin = l.pin; clock = l.clock; edge = l.edge; amount = l.offset })

-- a launch at a register's clock pin that the clock reaches
pub record IsClockLaunch (s : Subject) (scope : Scope) (l : Launch) : Type 0 where
  pub within : is_pin_of s.design s.root l.pin.0 ≡ true
  pub edge : Contains s.timing.edges (record { pin = l.pin; edge = l.edge })
  pub reached : Reaches s.design s.root scope.clocks l.clock l.pin.0
  pub offset : l.offset ≡ pos 0

abbrev pub IsLaunch : Subject → Scope → Launch → Type 0
IsLaunch s scope l = IsPortLaunch scope l ⊎ IsClockLaunch s scope l

-- a capture at an output port bit
abbrev pub IsPortCapture : Scope → Capture → Type 0
IsPortCapture scope x = Contains scope.outputs (record { pin = x.pin; clock = x.clock; edge = x.edge; amount = x.amount })

-- a capture by a setup check whose clock pin the clock reaches
pub record IsCheckCapture (s : Subject) (scope : Scope) (x : Capture) : Type 0 where
  pub within : is_pin_of s.design s.root x.pin.0 ≡ true
  pub clock_pin : PinId
  pub check : Contains s.timing.checks (record { pin = x.pin; clock = clock_pin; edge = x.edge; amount = x.amount })
  pub reached : Reaches s.design s.root scope.clocks x.clock clock_pin.0

abbrev pub IsCapture : Subject → Scope → Capture → Type 0
IsCapture s scope x = IsPortCapture scope x ⊎ IsCheckCapture s scope x

-- a clock pin that no clock reaches
pub record IsUnclocked (s : Subject) (scope : Scope) (v : PinId) : Type 0 where
  pub within : is_pin_of s.design s.root v.0 ≡ true
  pub edge : Edge
  pub clock_pin : Contains s.timing.edges (record { pin = v; edge = edge })
  pub unreached : (c : ℕ) → Reaches s.design s.root scope.clocks c v.0 → ⊥

-- the constraints that the commands give
pub record AreConstraints (s : Subject) (commands : List NumberedCommand) (all : Constraints) : Type 0 where
  pub scope : Scope
  pub says : resolved s commands ≡ Ok scope
  pub clocks : all.clocks ≡ scope.clocks
  pub exceptions : all.exceptions ≡ scope.exceptions
  pub launches : Lists launch_before (IsLaunch s scope) all.launches
  pub captures : Lists capture_before (IsCapture s scope) all.captures
  pub unclocked : Lists (λ v w. nat_lt v.0 w.0) (IsUnclocked s scope) all.unclocked

-- what each answer of `resolve` says
abbrev pub IsResolveAnswer : Subject → List NumberedCommand → Result Constraints ResolveFault → Type 0
IsResolveAnswer s commands (Ok all) = AreConstraints s commands all
IsResolveAnswer s commands (Err (UnknownObject name)) = resolved s commands ≡ Err (UnknownObject name)
IsResolveAnswer s commands (Err (UnknownClock name)) = resolved s commands ≡ Err (UnknownClock name)
IsResolveAnswer s commands (Err (NotASource name)) = resolved s commands ≡ Err (NotASource name)
IsResolveAnswer s commands (Err (NotAStart name)) = resolved s commands ≡ Err (NotAStart name)
IsResolveAnswer s commands (Err (NotAnEnd name)) = resolved s commands ≡ Err (NotAnEnd name)
IsResolveAnswer s commands (Err (NotAPin name)) = resolved s commands ≡ Err (NotAPin name)
IsResolveAnswer s commands (Err (ClockTwice name)) = resolved s commands ≡ Err (ClockTwice name)
IsResolveAnswer s commands (Err (BadWaveform name)) = resolved s commands ≡ Err (BadWaveform name)
IsResolveAnswer s commands (Err NoMemory) = Unit {0}
