-- The delays that launch edges and setup checks give, by the clocks that reach their clock pins.
use Rattle.std.specs.Prelude.{◌≡◌, ℕ, pos, List, ◌++◌, map, filter_map, Option, Some, None}
use Rattle.std.specs.Option.{option_map}
use Rattle.bud_base.specs.declared.ids.PinId.{PinId}
use Rattle.bud_design.specs.declared.timings.Check.{Check}
use Rattle.bud_design.specs.declared.timings.LaunchEdge.{LaunchEdge}
use Rattle.bud_design.specs.declared.clocks.Launch.{Launch}
use Rattle.bud_design.specs.declared.clocks.Capture.{Capture}
use Rattle.clock_reach.specs.Walks.{mark_at}
use Rattle.timing_scopes.specs.declared.scopes.PinDelay.{PinDelay}
use Rattle.requirements.specs.Ordering.{AreOrdered}

-- a clock pin that a clock reaches launches at its edge
abbrev pub clock_delay : List (Option ℕ) → LaunchEdge → Option PinDelay
clock_delay reached e = option_map (λ c. record { pin = e.pin; clock = c; edge = e.edge; amount = pos 0 }) (mark_at reached e.pin.0)

-- a setup check whose clock pin a clock reaches captures at its edge
abbrev pub check_delay : List (Option ℕ) → Check → Option PinDelay
check_delay reached x = option_map (λ c. record { pin = x.pin; clock = c; edge = x.edge; amount = x.amount }) (mark_at reached x.clock.0)

abbrev pub pin_unless : PinId → Option ℕ → Option PinId
pin_unless v None = Some v
pin_unless v (Some c) = None

abbrev pub unclocked_pin : List (Option ℕ) → LaunchEdge → Option PinId
unclocked_pin reached e = pin_unless e.pin (mark_at reached e.pin.0)

abbrev pub launch_of : PinDelay → Launch
launch_of x = record { pin = x.pin; clock = x.clock; edge = x.edge; offset = x.amount }

abbrev pub capture_of : PinDelay → Capture
capture_of x = record { pin = x.pin; clock = x.clock; edge = x.edge; amount = x.amount }

-- the launches of input delays and clock pins, in order
pub record AreLaunches (inputs : List PinDelay) (edges : List LaunchEdge) (reached : List (Option ℕ)) (launches : List Launch) : Type 0 where
  pub delays : List PinDelay
  pub ordered : AreOrdered (inputs ++ filter_map (clock_delay reached) edges) delays
  pub launches_are : launches ≡ map launch_of delays

-- the captures of output delays and setup checks, in order
pub record AreCaptures (outputs : List PinDelay) (checks : List Check) (reached : List (Option ℕ)) (captures : List Capture) : Type 0 where
  pub delays : List PinDelay
  pub ordered : AreOrdered (outputs ++ filter_map (check_delay reached) checks) delays
  pub captures_are : captures ≡ map capture_of delays
