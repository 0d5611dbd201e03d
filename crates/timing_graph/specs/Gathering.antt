-- How arcs are gathered.
use Rattle.std.specs.Prelude.{◌≡◌, ℕ, ℤ, ◌<◌, Bool, false, List, map, length, slice_index_or}
use Rattle.bud_design.specs.declared.designs.Pin.{Pin}
use Rattle.bud_design.specs.declared.designs.Wire.{Wire}
use Rattle.bud_design.specs.declared.timings.Pair.{Pair}
use Rattle.bud_design.specs.declared.timings.Timing.{Timing}
use Rattle.bud_design.specs.Arcs.{Arc, is_clocked}
use Rattle.bud_design.specs.Designs.{pin_at}

-- the marks tell the clock pins
pub record MarkClockPins (t : Timing) (pins : ℕ) (marks : List Bool) : Type 0 where
  pub size : length marks ≡ pins
  pub tells : (v : ℕ) → v < pins → slice_index_or marks v false ≡ is_clocked t v

abbrev pub arc_of_wire : Wire → ℤ → Arc
arc_of_wire w z = record { from = w.from.0; to = w.to.0; least = z; home = w.home }

-- the arcs of pairs, each at home in the place of its first pin
abbrev pub arcs_of_pairs : List Pin → List Pair → List Arc
arcs_of_pairs pins pairs = map (λ x. record { from = x.from.0; to = x.to.0; least = x.value; home = (pin_at pins x.from.0).place }) pairs
