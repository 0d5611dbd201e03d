-- What every bound timing, every timing graph and every layering keep.
use Rattle.std.specs.Prelude.{◌≡◌, ℕ, ◌<◌, ℤ, pos, negsuc, ◌≤ℤ◌, true, false, length, All, AllPairs}
use Rattle.bud_base.specs.Soundness.{IsSound}
use Rattle.bud_design.specs.declared.timings.Pair.{Pair}
use Rattle.bud_design.specs.declared.timings.Check.{Check}
use Rattle.bud_design.specs.declared.timings.Timing.{Timing}
use Rattle.bud_design.specs.declared.layers.Layered.{Layered}
use Rattle.bud_design.specs.Arcs.{Graph, Arc, arc_before, IsTopological, is_clocked}
use Rattle.bud_design.specs.Designs.{Design, place_at, pin_at, is_input}
use Rattle.bud_design.specs.Layers.{node_before, item_before}
use Rattle.bud_design.specs.Orders.{pair_before, check_before, edge_pin_before}

-- a delay of at least 0 ps within the readers' range
pub record IsDelay (delay : ℤ) : Type 0 where
  pub low : pos 0 ≤ℤ delay
  pub high : delay ≤ℤ pos 1000000000

pub record IsSoundPair (d : Design) (x : Pair) : Type 0 where
  pub from : x.from.0 < length d.pins
  pub to : x.to.0 < length d.pins
  pub value : IsDelay x.value

-- a pair begins at an input of a leaf, so that no wire begins there
pub record StartsInLeaf (d : Design) (x : Pair) : Type 0 where
  pub leaf : (place_at d.places (pin_at d.pins x.from.0).place).leaf ≡ true
  pub input : is_input (pin_at d.pins x.from.0).dir ≡ true

-- a check stands at a pin that is no clock pin, by a clock pin
pub record IsSoundCheck (d : Design) (t : Timing) (x : Check) : Type 0 where
  pub pin : x.pin.0 < length d.pins
  pub at_data_pin : is_clocked t x.pin.0 ≡ false
  pub clock : is_clocked t x.clock.0 ≡ true
  pub low : negsuc 999999999 ≤ℤ x.amount
  pub high : x.amount ≤ℤ pos 1000000000

pub record IsSoundTiming (d : Design) (t : Timing) : Type 0 where
  pub one_each : length t.wires ≡ length d.wires
  pub wires : All IsDelay t.wires
  pub pairs : All (IsSoundPair d) t.pairs
  pub pair_order : AllPairs (λ x y. pair_before x y ≡ true) t.pairs
  pub checks : All (IsSoundCheck d t) t.checks
  pub check_order : AllPairs (λ x y. check_before x y ≡ true) t.checks
  pub edges : All (λ x. x.pin.0 < length d.pins) t.edges
  pub edge_order : AllPairs (λ x y. edge_pin_before x y ≡ true) t.edges

pub record IsSoundArc (d : Design) (a : Arc) : Type 0 where
  pub from : a.from < length d.pins
  pub to : a.to < length d.pins
  pub home : a.home < length d.places
  pub least : IsDelay a.least

pub record IsSoundGraph (d : Design) (g : Graph) : Type 0 where
  pub arcs : All (IsSoundArc d) g.arcs
  pub arc_order : AllPairs (λ x y. arc_before x y ≡ true) g.arcs
  pub order : IsTopological (length d.pins) g.arcs g.order

pub record IsSoundLayered (pins arcs : ℕ) (layered : Layered) : Type 0 where
  pub problem : IsSound layered.problem
  pub node_count : layered.problem.nodes ≡ length layered.nodes
  pub item_count : length layered.problem.items ≡ length layered.items
  pub nodes : All (λ x. x.pin.0 < pins) layered.nodes
  pub node_classes : All (λ x. x.«class».0 < length layered.classes) layered.nodes
  pub node_order : AllPairs (λ x y. node_before x y ≡ true) layered.nodes
  pub items : All (λ x. x.arc.0 < arcs) layered.items
  pub item_classes : All (λ x. x.«class».0 < length layered.classes) layered.items
  pub item_order : AllPairs (λ x y. item_before x y ≡ true) layered.items
