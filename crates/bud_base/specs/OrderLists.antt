-- What a node order holds.
use Rattle.std.specs.Prelude.{◌≡◌, ℕ, ◌≤◌, List, length}
use Rattle.bud_base.specs.LinkLists.{LinkLists}
use Rattle.bud_base.specs.declared.ids.NodeId.{NodeId}
use Rattle.bud_base.specs.declared.ids.ItemId.{ItemId}

-- the order or the cycle that was found last, and the links of the items that were looked at
pub record OrderLists : Type 0 where
  pub order : List NodeId
  pub links : LinkLists
  pub cycle : List ItemId

-- how many nodes and items there is room for
abbrev pub node_room : OrderLists → ℕ
node_room lists = length lists.links.first

abbrev pub item_room : OrderLists → ℕ
item_room lists = length lists.links.next

pub record FitsRoom (lists : OrderLists) (nodes items : ℕ) : Type 0 where
  pub for_nodes : nodes ≤ node_room lists
  pub for_items : items ≤ item_room lists

pub record KeepsRoom (old new : OrderLists) : Type 0 where
  pub nodes : node_room new ≡ node_room old
  pub items : item_room new ≡ item_room old
