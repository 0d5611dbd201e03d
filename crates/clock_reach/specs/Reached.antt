-- Which clock reaches each pin of a design.
use Rattle.std.specs.Prelude.{◌≡◌, ℕ, List, length, Option, Some, All}
use Rattle.bud_design.specs.declared.clocks.Clock.{Clock}
use Rattle.bud_design.specs.Designs.{Design}
use Rattle.bud_design.specs.Clocks.{Reaches}
use Rattle.clock_reach.specs.Walks.{HasSource, HasSourcesBelow, mark_at}

-- the sources of clocks are pins that no wire ends at, and no two clocks share one
pub record AreSources (d : Design) (clocks : List Clock) : Type 0 where
  pub within : All (HasSourcesBelow (length d.pins)) clocks
  pub undriven : (c v : ℕ) → HasSource clocks c v → All (λ w. w.to.0 ≡ v → ⊥) d.wires
  pub apart : (b c v : ℕ) → HasSource clocks b v → HasSource clocks c v → b ≡ c

-- the number at each pin is that of the one clock that reaches it
pub record AreReached (d : Design) (root : ℕ) (clocks : List Clock) (reached : List (Option ℕ)) : Type 0 where
  pub size : length reached ≡ length d.pins
  pub only : (v c : ℕ) → mark_at reached v ≡ Some c → Reaches d root clocks c v
  pub all : (v c : ℕ) → Reaches d root clocks c v → mark_at reached v ≡ Some c
