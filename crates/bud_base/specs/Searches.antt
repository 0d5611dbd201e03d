-- A search for an order of nodes: its marks, the places that it fills from the end, and its way.
use Rattle.std.specs.Prelude.{◌≡◌, ℕ, ◌<◌, ◌≤◌, Bool, true, false, Option, Some, None, Result, Ok, Err, List, length, slice_index_or, take, count_by}
use Rattle.bud_base.specs.Paths.{item_at}
use Rattle.bud_base.specs.Orders.{node_at, IsOrder}
use Rattle.bud_base.specs.Leaving.{leaving_from}
use Rattle.bud_base.specs.Rings.{HasRing, HasCycle}
use Rattle.bud_base.specs.declared.ids.NodeId.{NodeId}
use Rattle.bud_base.specs.declared.ids.ItemId.{ItemId}
use Rattle.bud_base.specs.declared.problems.Item.{Item}
use Rattle.bud_base.specs.declared.orders.Mark.{Mark}
use Rattle.bud_base.specs.declared.orders.Mark.TheVariants.{New, Open, Placed}
use Rattle.bud_base.specs.declared.orders.Top.{Top}
use Rattle.bud_base.specs.declared.orders.Span.{Span}
use Rattle.bud_base.specs.declared.orders.Step.{Step}
use Rattle.bud_base.specs.declared.orders.Step.TheVariants.{Enter, Ring, Close}

abbrev pub mark_at : List Mark → ℕ → Mark
mark_at marks n = slice_index_or marks n New

abbrev pub AreNew : List Mark → Type 0
AreNew marks = (n : ℕ) → mark_at marks n ≡ New

abbrev pub IsPlaced : Mark → Type 0
IsPlaced New = ⊥
IsPlaced (Open k) = ⊥
IsPlaced (Placed k) = Unit {0}

-- where a placed node stands
abbrev pub place_of : Mark → ℕ
place_of New = 0
place_of (Open k) = 0
place_of (Placed k) = k

abbrev pub is_new : Mark → Bool
is_new New = true
is_new (Open k) = false
is_new (Placed k) = false

-- the places from `free` on hold the placed nodes, and an item of a placed node leads to a later place
pub record ArePlaced (items : List Item) (marks : List Mark) (order : List NodeId) (free : ℕ) : Type 0 where
  pub low : (n : ℕ) → IsPlaced (mark_at marks n) → free ≤ place_of (mark_at marks n)
  pub high : (n : ℕ) → IsPlaced (mark_at marks n) → place_of (mark_at marks n) < length marks
  pub here : (n : ℕ) → IsPlaced (mark_at marks n) → node_at order (place_of (mark_at marks n)) ≡ n
  pub within : (k : ℕ) → free ≤ k → k < length marks → node_at order k < length marks
  pub stands : (k : ℕ) → free ≤ k → k < length marks → mark_at marks (node_at order k) ≡ Placed k
  pub heads : (i : ℕ) → i < length items → IsPlaced (mark_at marks (item_at items i).from.0) → IsPlaced (mark_at marks (item_at items i).to.0)
  pub follows : (i : ℕ) → i < length items → IsPlaced (mark_at marks (item_at items i).from.0)
      → place_of (mark_at marks (item_at items i).from.0) < place_of (mark_at marks (item_at items i).to.0)

-- every item of the node below number `low` leads to a placed node
abbrev pub AreTried : List Item → List Mark → ℕ → ℕ → Type 0
AreTried items marks node low =
    (i : ℕ) → i < low → i < length items → (item_at items i).from.0 ≡ node → IsPlaced (mark_at marks (item_at items i).to.0)

-- the items of the last node of the way are tried up to its next one
pub record IsTop (items : List Item) (marks : List Mark) (top : Top) : Type 0 where
  pub low : ℕ
  pub next : top.next ≡ leaving_from items top.node.0 low
  pub tried : AreTried items marks top.node.0 low

-- an item of the node whose head has this mark
pub record LeadsTo (items : List Item) (marks : List Mark) (node i : ℕ) (mark : Mark) : Type 0 where
  pub within : i < length items
  pub leaves : (item_at items i).from.0 ≡ node
  pub head : mark_at marks (item_at items i).to.0 ≡ mark

abbrev pub IsStep : List Item → List Mark → ℕ → Step → Type 0
IsStep items marks node (Enter i) = LeadsTo items marks node i.0 New × AreTried items marks node i.0
IsStep items marks node (Ring i depth) = LeadsTo items marks node i.0 (Open depth)
IsStep items marks node Close = AreTried items marks node (length items)

-- between two searches: each node is new or placed, and there are as many free places as new nodes
pub record IsArranged (items : List Item) (marks : List Mark) (order : List NodeId) (free : ℕ) : Type 0 where
  pub placed : ArePlaced items marks order free
  pub settled : (n k : ℕ) → mark_at marks n ≡ Open k → ⊥
  pub count : free ≡ count_by is_new marks

-- no node has become new
abbrev pub NoneRenewed : List Mark → List Mark → Type 0
NoneRenewed old new = (n : ℕ) → mark_at new n ≡ New → mark_at old n ≡ New

pub record AreExplored (items : List Item) (old new : List Mark) (order : List NodeId) (root free : ℕ) : Type 0 where
  pub arranged : IsArranged items new order free
  pub kept : NoneRenewed old new
  pub explored : mark_at new root ≡ New → ⊥

abbrev pub IsExplored : List Item → List Mark → List Mark → List NodeId → List ItemId → ℕ → Result ℕ Span → Type 0
IsExplored items old new order path root (Ok free) = AreExplored items old new order root free
IsExplored items old new order path root (Err ring) = HasRing items path ring

abbrev pub IsSearched : List Item → List NodeId → List ItemId → Option Span → Type 0
IsSearched items order path None = IsOrder (length order) items order
IsSearched items order path (Some ring) = HasRing items path ring

abbrev pub IsFound : List Item → ℕ → List NodeId → List ItemId → Option Span → Type 0
IsFound items nodes order path None = IsOrder nodes items (take nodes order)
IsFound items nodes order path (Some ring) = HasCycle items path ring
