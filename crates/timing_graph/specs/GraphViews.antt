-- How the arcs that are held are seen, and what every graph that is held keeps.
use Rattle.std.specs.Prelude.{◌≡◌, ◌&&◌, ◌==◌, ℕ, ◌<◌, ◌≤◌, ◌*◌, ◌+◌, true, false, List, length, AllPairs, slice_index_or}
use Rattle.bud_design.specs.Arcs.{Graph}
use Rattle.bud_design.specs.Arcs as arcs
use Rattle.bud_design.specs.Designs.{Design}
use Rattle.bud_design.specs.Orders.{pins_before}
use Rattle.bud_design.specs.TimingRules.{IsSoundGraph}
use Rattle.timing_graph.specs.declared.graphs.Arc.{Arc}

abbrev pub arc_of : Arc → arcs.Arc
arc_of a = record { from = a.from.0; to = a.to.0; least = a.least; home = a.home }

-- fewer than 2^31 arcs, sound for some design
pub record IsSomeGraph (g : Graph) : Type 0 where
  pub few : length g.arcs < 2147483648
  pub design : Design
  pub sound : IsSoundGraph design g

-- each arc's pins come before those of the next
abbrev pub AreRising : List Arc → Type 0
AreRising xs = AllPairs (λ x y. pins_before x.from.0 x.to.0 y.from.0 y.to.0 ≡ true) xs

-- the arcs below the place come before the pins, and those from it on do not
pub record IsPlaceFor (xs : List Arc) (from to place : ℕ) : Type 0 where
  pub within : place ≤ length xs
  pub below : (k : ℕ) (d : Arc) → k < place → pins_before (slice_index_or xs k d).from.0 (slice_index_or xs k d).to.0 from to ≡ true
  pub above : (k : ℕ) (d : Arc) → place ≤ k → k < length xs → pins_before (slice_index_or xs k d).from.0 (slice_index_or xs k d).to.0 from to ≡ false

-- a number that rises with the pair of pins
abbrev pub key_of : Arc → ℕ
key_of a = a.from.0 * 4294967296 + a.to.0
