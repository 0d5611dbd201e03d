-- Timings whose checks and clock pins stand at pins of leaves.
use Rattle.std.specs.Prelude.{◌≡◌, ℕ, true, All}
use Rattle.bud_design.specs.declared.timings.Timing.{Timing}
use Rattle.bud_design.specs.Designs.{Design, place_at, pin_at}

abbrev pub IsLeafPin : Design → ℕ → Type 0
IsLeafPin d v = (place_at d.places (pin_at d.pins v).place).leaf ≡ true

pub record StandsInLeaves (d : Design) (t : Timing) : Type 0 where
  pub checks : All (λ x. IsLeafPin d x.pin.0) t.checks
  pub edges : All (λ x. IsLeafPin d x.pin.0) t.edges
