-- The items that leave a node.
use Rattle.std.specs.Prelude.{◌≡◌, ◌==◌, ℕ, ◌+◌, ◌<◌, ◌≤◌, List, length, drop, slice_index_or, Option, None}
use Rattle.std.specs.List.{position_from}
use Rattle.std.specs.Option.{option_map}
use Rattle.bud_base.specs.Paths.{item_at}
use Rattle.bud_base.specs.LinkLists.{LinkLists}
use Rattle.bud_base.specs.declared.ids.ItemId.{ItemId}
use Rattle.bud_base.specs.declared.problems.Item.{Item}

-- the first item from number `low` on that leaves the node
abbrev pub leaving_from : List Item → ℕ → ℕ → Option ItemId
leaving_from items node low = option_map (λ i. record { 0 = i }) (position_from (λ x. x.from.0 == node) low (drop low items))

-- the item leaves a node below this number
abbrev pub LeavesBelow : ℕ → Item → Type 0
LeavesBelow nodes x = x.from.0 < nodes

-- the links are those of the items: the first of each node, and after each item the next of its node
pub record AreLinks (items : List Item) (links : LinkLists) : Type 0 where
  pub room : length items ≤ length links.next
  pub first : (node : ℕ) → node < length links.first → slice_index_or links.first node None ≡ leaving_from items node 0
  pub next : (i : ℕ) → i < length items → slice_index_or links.next i None ≡ leaving_from items (item_at items i).from.0 (i + 1)
