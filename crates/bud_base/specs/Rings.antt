-- Items on the way of a search that lead from a node back to it, and how they are turned.
use Rattle.std.specs.Prelude.{◌≡◌, ℕ, ◌<◌, ◌≤◌, List, ◌++◌, length, slice_index_or, slice_range, drop, take}
use Rattle.bud_base.specs.Paths.{Joins}
use Rattle.bud_base.specs.Orders.{IsCycle}
use Rattle.bud_base.specs.declared.ids.ItemId.{ItemId}
use Rattle.bud_base.specs.declared.problems.Item.{Item}
use Rattle.bud_base.specs.declared.orders.Span.{Span}

-- the items lead from a node back to it
abbrev pub IsRing : List Item → List ItemId → Type 0
IsRing items is = (node : ℕ) × Joins items node is node

-- some of these items lead from a node back to it
pub record HasRing (items : List Item) (path : List ItemId) (ring : Span) : Type 0 where
  pub some : ring.from < ring.to
  pub within : ring.to ≤ length path
  pub joined : IsRing items (slice_range path ring.from ring.to)

-- some of these items are a cycle
pub record HasCycle (items : List Item) (path : List ItemId) (ring : Span) : Type 0 where
  pub some : ring.from ≤ ring.to
  pub within : ring.to ≤ length path
  pub cycle : IsCycle items (slice_range path ring.from ring.to)

-- the place of the least number
pub record IsLeastPlace (ring : List ItemId) (place : ℕ) : Type 0 where
  pub within : place < length ring
  pub least : (k : ℕ) → k < length ring → (slice_index_or ring place (record { 0 = 0 })).0 ≤ (slice_index_or ring k (record { 0 = 0 })).0

-- the list is turned so that its least number comes first
pub record IsTurned (old new : List ItemId) : Type 0 where
  pub place : ℕ
  pub least : IsLeastPlace old place
  pub turned : new ≡ drop place old ++ take place old
