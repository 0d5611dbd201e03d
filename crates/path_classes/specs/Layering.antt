-- The parts that a layering is made of, and what they are.
use Rattle.std.specs.Prelude.{◌≡◌, ℕ, ◌<◌, true, Bool, List, [], ◌∷◌, map, length, Option, All, AllPairs}
use Rattle.std.specs.List.{AllZip}
use Rattle.bud_base.specs.Markings.{AreReaching}
use Rattle.bud_base.specs.Paths.{Joins}
use Rattle.bud_base.specs.declared.ids.ItemId.{ItemId}
use Rattle.bud_base.specs.declared.problems.Item.{Item}
use Rattle.bud_base.specs.declared.problems.End.{End}
use Rattle.bud_design.specs.declared.clocks.Constraints.{Constraints}
use Rattle.bud_design.specs.declared.layers.Layered.{Layered}
use Rattle.bud_design.specs.declared.layers.Class.{Class}
use Rattle.live_states.specs.Leading.{leading_graph}
use Rattle.path_states.specs.Tables.{Table}
use Rattle.path_states.specs.Exploring.{IsExplored}
use Rattle.state_laws.specs.Views.{AreStateEnds}
use Rattle.state_numbers.specs.Placed.{placed_before}
use Rattle.state_numbers.specs.Ranks.{AreRanked}
use Rattle.state_numbers.specs.declared.placed.Placed.{Placed}
use Rattle.state_numbers.specs.declared.ranks.KindKey.{KindKey}
use Rattle.path_classes.specs.Placing.{classes_of, node_of, item_of, start_of, AreNodes, AreItems, IsItemAt, AreStarts, AreNodeEnds, HasClocks}

pub record Parts : Type 0 where
  pub table : Table
  pub state_ends : List End
  pub live : List Bool
  pub keys : List KindKey
  pub ranks : List (Option ℕ)
  pub nodes : List Placed
  pub items : List Placed
  pub problem_items : List Item
  pub starts : List Placed
  pub ends : List End

abbrev pub layered_of : Constraints → ℕ → Parts → Layered
layered_of all version p = record {
  problem = record { nodes = length p.nodes; items = p.problem_items; starts = map (start_of all.launches) p.starts; ends = p.ends };
  classes = classes_of p.table.kinds p.keys;
  nodes = map node_of p.nodes;
  items = map item_of p.items;
  version = version;
}

abbrev pub AreRising : List Placed → Type 0
AreRising xs = AllPairs (λ x y. placed_before x y ≡ true) xs

pub record AreParts (arcs : List Item) (all : Constraints) (p : Parts) : Type 0 where
  pub explored : IsExplored arcs all p.table
  pub asks : AreStateEnds all p.table (length p.table.states) p.state_ends
  pub leading : AreReaching (leading_graph (length p.table.states) p.table.edges p.state_ends) p.live
  pub ranked : AreRanked p.table.kinds p.table.states p.table.launches p.live p.keys p.ranks
  pub nodes : AreNodes p.table p.live p.ranks (length p.table.states) p.nodes
  pub nodes_rise : AreRising p.nodes
  pub items : AreItems p.table p.live p.ranks (length p.table.edges) p.items
  pub items_rise : AreRising p.items
  pub problem_items : AllZip (IsItemAt arcs p.nodes) p.items p.problem_items
  pub starts : AreStarts all p.table.kinds p.ranks p.nodes (length all.launches) p.starts
  pub starts_rise : AreRising p.starts
  pub ends : AreNodeEnds all (classes_of p.table.kinds p.keys) p.nodes (length p.nodes) p.ends

-- the layering is made of such parts
pub record HasParts (arcs : List Item) (all : Constraints) (version : ℕ) (layered : Layered) : Type 0 where
  pub parts : Parts
  pub are : AreParts arcs all parts
  pub is : layered ≡ layered_of all version parts

-- arcs never lead back
abbrev pub HasNoRing : List Item → Type 0
HasNoRing arcs = (x : ItemId) (xs : List ItemId) (v : ℕ) → Joins arcs v (x ∷ xs) v → ⊥

-- the marked states lead to states where captures ask for something
pub record IsLiveTable (all : Constraints) (t : Table) (live : List Bool) : Type 0 where
  pub ends : List End
  pub asks : AreStateEnds all t (length t.states) ends
  pub leading : AreReaching (leading_graph (length t.states) t.edges ends) live
  pub size : length live ≡ length t.states

-- nodes, items and starts of a table in their orders
pub record ArePlaces (all : Constraints) (t : Table) (live : List Bool) (ranks : List (Option ℕ)) (nodes items starts : List Placed) : Type 0 where
  pub nodes_are : AreNodes t live ranks (length t.states) nodes
  pub nodes_rise : AreRising nodes
  pub items_are : AreItems t live ranks (length t.edges) items
  pub items_rise : AreRising items
  pub starts_are : AreStarts all t.kinds ranks nodes (length all.launches) starts
  pub starts_rise : AreRising starts

-- pins, arcs, classes and launches of what is placed are in range
pub record CanLayer (arcs : List Item) (all : Constraints) (pins : ℕ) (kinds : List Class) (keys : List KindKey) (nodes items starts : List Placed) : Type 0 where
  pub rising : AreRising nodes
  pub pins_below : All (λ x. x.number < pins) nodes
  pub classes_below : All (λ x. x.«class» < length keys) nodes
  pub arcs_below : All (λ x. x.number < length arcs) items
  pub launches_below : All (λ x. x.with < length all.launches) starts
  pub clocks : HasClocks all (classes_of kinds keys)

-- the layering of what is placed
pub record IsLayeredFrom (arcs : List Item) (all : Constraints) (kinds : List Class) (keys : List KindKey) (nodes items starts : List Placed) (layered : Layered) : Type 0 where
  pub problem_items : List Item
  pub ends : List End
  pub items_are : AllZip (IsItemAt arcs nodes) items problem_items
  pub ends_are : AreNodeEnds all (classes_of kinds keys) nodes (length nodes) ends
  pub is : layered ≡ record {
    problem = record { nodes = length nodes; items = problem_items; starts = map (start_of all.launches) starts; ends = ends };
    classes = classes_of kinds keys;
    nodes = map node_of nodes;
    items = map item_of items;
    version = 1;
  }
