-- What all scopes keep that commands within the readers' ranges make.
use Rattle.std.specs.Prelude.{◌≡◌, ℕ, ◌<◌, true, false, length, List, All, AllPairs}
use Rattle.bud_syntax.specs.Ranges.{IsReadTime}
use Rattle.bud_base.specs.declared.ids.PinId.{PinId}
use Rattle.bud_design.specs.declared.clocks.Clock.{Clock}
use Rattle.bud_design.specs.Clocks.{IsSoundClock}
use Rattle.bud_design.specs.ConstraintRules.{IsSoundKind, HasMarksBelow}
use Rattle.clock_reach.specs.Walks.{HasSource}
use Rattle.timing_objects.specs.declared.things.Role.{Role}
use Rattle.timing_objects.specs.declared.things.Role.TheVariants.{Source, Input, Output}
use Rattle.timing_objects.specs.Objects.{Subject, pin_may_be}
use Rattle.timing_scopes.specs.declared.scopes.PinDelay.{PinDelay}
use Rattle.timing_scopes.specs.declared.scopes.Scope.{Scope}
use Rattle.timing_scopes.specs.Resolving.{same_place}

-- a pin of the design that may be named so
pub record IsPinAs (s : Subject) (role : Role) (v : PinId) : Type 0 where
  pub below : v.0 < length s.design.pins
  pub may_be : pin_may_be s role v.0 ≡ true

-- a delay at a pin that may be named so, from an edge of a clock
pub record IsDelayAs (s : Subject) (role : Role) (clocks : ℕ) (x : PinDelay) : Type 0 where
  pub pin : IsPinAs s role x.pin
  pub clock : x.clock < clocks
  pub amount : IsReadTime x.amount

-- no two are at one pin from one edge of one clock
abbrev pub OneEach : List PinDelay → Type 0
OneEach delays = AllPairs (λ x y. same_place x y ≡ false) delays

pub record AreSoundClocks (s : Subject) (clocks : List Clock) : Type 0 where
  pub waves : All IsSoundClock clocks
  pub sources : All (λ c. All (IsPinAs s Source) c.sources) clocks
  pub apart : (b c v : ℕ) → HasSource clocks b v → HasSource clocks c v → b ≡ c

pub record AreSoundDelays (s : Subject) (role : Role) (clocks : ℕ) (delays : List PinDelay) : Type 0 where
  pub each : All (IsDelayAs s role clocks) delays
  pub one : OneEach delays

pub record IsSoundScope (s : Subject) (scope : Scope) : Type 0 where
  pub clocks : AreSoundClocks s scope.clocks
  pub inputs : AreSoundDelays s Input (length scope.clocks) scope.inputs
  pub outputs : AreSoundDelays s Output (length scope.clocks) scope.outputs
  pub marks : All (HasMarksBelow (length s.design.pins) (length scope.clocks)) scope.exceptions
  pub kinds : All (λ e. IsSoundKind e.kind) scope.exceptions
