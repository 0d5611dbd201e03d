-- Nodes that lead to ends, as those of a problem without starts.
use Rattle.std.specs.Prelude.{ℕ, List, [], length}
use Rattle.bud_base.specs.Leaving.{AreLinks}
use Rattle.bud_base.specs.OrderLists.{OrderLists, FitsRoom}
use Rattle.bud_base.specs.Orders.{IsOrder}
use Rattle.bud_base.specs.declared.problems.Item.{Item}
use Rattle.bud_base.specs.declared.problems.End.{End}
use Rattle.bud_base.specs.declared.problems.Problem.{Problem}

abbrev pub leading_graph : ℕ → List Item → List End → Problem
leading_graph nodes items ends = record { nodes = nodes; items = items; starts = []; ends = ends }

-- an order of the nodes, with the links of the items
pub record FollowsOrder (nodes : ℕ) (items : List Item) (lists : OrderLists) : Type 0 where
  pub in_order : IsOrder nodes items lists.order
  pub linked : AreLinks items lists.links
  pub room : FitsRoom lists nodes (length items)
