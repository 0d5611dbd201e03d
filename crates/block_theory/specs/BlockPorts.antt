-- What a block's file is made from: the clocks that reach pins, the nodes of the layering at the block's port bits, and their classes.
use Rattle.std.specs.Prelude.{ℕ, ◌==◌, Bool, List, ◌++◌, length, filter, flat_map, Option, slice_index_or}
use Rattle.std.specs.List.{list_any, range_with_len}
use Rattle.bud_design.specs.declared.clocks.Clock.{Clock}
use Rattle.bud_design.specs.declared.clocks.Constraints.{Constraints}
use Rattle.bud_design.specs.declared.layers.LayerNode.{LayerNode}
use Rattle.bud_design.specs.declared.layers.Layered.{Layered}
use Rattle.bud_design.specs.declared.timings.Timing.{Timing}
use Rattle.bud_design.specs.Clocks.{clock_at}
use Rattle.bud_design.specs.Designs.{Design, pins_of, input_bits, output_bits}
use Rattle.bud_design.specs.Layers.{class_number}

-- what a block's file is made from: the whole design with its checks and launch edges, its constraints and its layering,
-- the clock that reaches each pin of it, and the place of the block
pub record Context : Type 0 where
  pub design : Design
  pub timing : Timing
  pub all : Constraints
  pub layered : Layered
  pub reached : List (Option ℕ)
  pub block : ℕ

-- the pins at or below the block that are such, in pin order
abbrev pub pins_where : Context → (ℕ → Bool) → List ℕ
pins_where x is_such = filter is_such (pins_of x.design x.block)

-- a node of the layering, by its number, and the number and the clock of its class
abbrev pub node_at : List LayerNode → ℕ → LayerNode
node_at nodes n = slice_index_or nodes n (record { pin = record { 0 = 0 }; «class» = record { 0 = 0 } })

abbrev pub node_class : Layered → ℕ → ℕ
node_class layered n = (node_at layered.nodes n).«class».0

abbrev pub class_clock : Constraints → Layered → ℕ → Clock
class_clock all layered k = clock_at all.clocks (class_number layered.classes k).clock

-- the nodes at a pin, by class, and those at the input bits and the output bits of a block
abbrev pub nodes_at : Layered → ℕ → List ℕ
nodes_at layered v = filter (λ n. (node_at layered.nodes n).pin.0 == v) (range_with_len 0 (length layered.nodes))

abbrev pub input_nodes : Design → Layered → ℕ → List ℕ
input_nodes d layered b = flat_map (nodes_at layered) (input_bits d b)

abbrev pub output_nodes : Design → Layered → ℕ → List ℕ
output_nodes d layered b = flat_map (nodes_at layered) (output_bits d b)

-- the classes of some nodes, by number
abbrev pub classes_of : Layered → List ℕ → List ℕ
classes_of layered ns = filter (λ k. list_any (λ n. node_class layered n == k) ns) (range_with_len 0 (length layered.classes))

abbrev pub input_classes : Context → List ℕ
input_classes x = classes_of x.layered (input_nodes x.design x.layered x.block)

abbrev pub output_classes : Context → List ℕ
output_classes x = classes_of x.layered (output_nodes x.design x.layered x.block)

abbrev pub port_classes : Context → List ℕ
port_classes x = classes_of x.layered (input_nodes x.design x.layered x.block ++ output_nodes x.design x.layered x.block)
