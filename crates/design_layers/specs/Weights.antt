-- Items with the bounds and weights that a policy gives them.
use Rattle.std.specs.Prelude.{◌≡◌, ℕ, ◌<◌, ◌+ℤ◌, List, [], ◌∷◌, length, All}
use Rattle.bud_base.specs.declared.problems.Item.{Item}
use Rattle.bud_design.specs.Arcs.{Arc, arc_at}
use Rattle.bud_design.specs.Clocks.{clock_at}
use Rattle.bud_design.specs.Designs.{Design}
use Rattle.bud_design.specs.Layers.{class_number}
use Rattle.bud_design.specs.Policies.{Share, share}
use Rattle.bud_design.specs.TimingRules.{IsDelay}
use Rattle.bud_design.specs.declared.clocks.Clock.{Clock}
use Rattle.bud_design.specs.declared.layers.Class.{Class}
use Rattle.bud_design.specs.declared.layers.LayerItem.{LayerItem}
use Rattle.bud_design.specs.declared.layers.Layered.{Layered}
use Rattle.bud_design.specs.declared.policies.PolicyLine.{PolicyLine}

-- what lines give an arc in a class
abbrev pub share_at : Design → List Arc → List Clock → List PolicyLine → List Class → LayerItem → Share
share_at d arcs clocks lines classes x = share d arcs lines x.arc.0 (clock_at clocks (class_number classes x.«class».0).clock)

-- the item with its share
abbrev pub weighted : Share → Item → Item
weighted s item = record { from = item.from; to = item.to; least = item.least; greatest = item.least +ℤ s.extra; weight = s.weight }

abbrev pub weighted_items : (LayerItem → Share) → List LayerItem → List Item → List Item
weighted_items given [] items = []
weighted_items given (x ∷ xs) [] = []
weighted_items given (x ∷ xs) (i ∷ is) = weighted (given x) i ∷ weighted_items given xs is

-- the layering with other bounds and weights
abbrev pub layered_with : Layered → List Item → ℕ → Layered
layered_with plain items version = record {
  problem = record { nodes = plain.problem.nodes; items = items; starts = plain.problem.starts; ends = plain.problem.ends };
  classes = plain.classes;
  nodes = plain.nodes;
  items = plain.items;
  version = version;
}

-- the item's class has a clock
pub record HasClock (clocks : List Clock) (classes : List Class) (x : LayerItem) : Type 0 where
  pub «class» : x.«class».0 < length classes
  pub clock : (class_number classes x.«class».0).clock < length clocks

-- items, their arcs and their classes are in range
pub record CanWeigh (d : Design) (arcs : List Arc) (clocks : List Clock) (layered : Layered) : Type 0 where
  pub as_many : length layered.problem.items ≡ length layered.items
  pub arcs_below : All (λ x. x.arc.0 < length arcs) layered.items
  pub homes : (a : ℕ) → a < length arcs → (arc_at arcs a).home < length d.places
  pub clocks_below : All (HasClock clocks layered.classes) layered.items
  pub leasts : All (λ item. IsDelay item.least) layered.problem.items
