-- The constraints of a scope, by the clocks that reach the pins.
use Rattle.std.specs.Prelude.{◌≡◌, ℕ, List, Option, filter_map}
use Rattle.bud_design.specs.declared.clocks.Constraints.{Constraints}
use Rattle.bud_design.specs.declared.timings.Timing.{Timing}
use Rattle.bud_design.specs.Designs.{Design}
use Rattle.clock_reach.specs.Reached.{AreReached}
use Rattle.timing_scopes.specs.declared.scopes.Scope.{Scope}
use Rattle.requirements.specs.Gathering.{unclocked_pin, AreLaunches, AreCaptures}

pub record IsGathered (d : Design) (t : Timing) (scope : Scope) (all : Constraints) : Type 0 where
  pub reached : List (Option ℕ)
  pub are_reached : AreReached d 0 scope.clocks reached
  pub clocks : all.clocks ≡ scope.clocks
  pub exceptions : all.exceptions ≡ scope.exceptions
  pub launches : AreLaunches scope.inputs t.edges reached all.launches
  pub captures : AreCaptures scope.outputs t.checks reached all.captures
  pub unclocked : all.unclocked ≡ filter_map (unclocked_pin reached) t.edges
