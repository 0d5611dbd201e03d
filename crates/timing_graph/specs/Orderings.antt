-- Arcs as items of nodes, and the order or the cycle that they have.
use Rattle.std.specs.Prelude.{◌≡◌, ℕ, pos, List, map, Result, Ok, Err}
use Rattle.bud_base.specs.Paths.{item_at}
use Rattle.bud_base.specs.declared.ids.NodeId.{NodeId}
use Rattle.bud_base.specs.declared.ids.PinId.{PinId}
use Rattle.bud_base.specs.declared.ids.ItemId.{ItemId}
use Rattle.bud_base.specs.declared.problems.Item.{Item}
use Rattle.bud_design.specs.Arcs.{IsTopological}
use Rattle.timing_graph.specs.declared.faults.PinPair.{PinPair}
use Rattle.timing_graph.specs.declared.faults.GraphFault.{GraphFault}
use Rattle.timing_graph.specs.declared.faults.GraphFault.TheVariants.{Cycle, NoMemory}
use Rattle.timing_graph.specs.declared.graphs.Arc.{Arc}
use Rattle.timing_graph.specs.GraphViews.{arc_of}
use Rattle.timing_graph.specs.Rings.{IsOwnCycle}

abbrev pub item_of : Arc → Item
item_of a = record { from = record { 0 = a.from.0 }; to = record { 0 = a.to.0 }; least = pos 0; greatest = pos 0; weight = 0 }

abbrev pub pin_of : NodeId → PinId
pin_of n = record { 0 = n.0 }

abbrev pub pair_of : List Item → ItemId → PinPair
pair_of items a = record { from = record { 0 = (item_at items a.0).from.0 }; to = record { 0 = (item_at items a.0).to.0 } }

-- the pairs are those of a cycle of the items that leads to no node twice
pub record ArePairsOfCycle (items : List Item) (pairs : List PinPair) : Type 0 where
  pub ring : List ItemId
  pub own : IsOwnCycle items ring
  pub pairs_are : pairs ≡ map (pair_of items) ring

abbrev pub IsCycleFault : List Item → GraphFault → Type 0
IsCycleFault items (Cycle pairs) = ArePairsOfCycle items pairs
IsCycleFault items NoMemory = Unit {0}

abbrev pub IsOrderAnswer : ℕ → List Arc → Result (List PinId) GraphFault → Type 0
IsOrderAnswer pins arcs (Ok order) = IsTopological pins (map arc_of arcs) order
IsOrderAnswer pins arcs (Err fault) = IsCycleFault (map item_of arcs) fault
