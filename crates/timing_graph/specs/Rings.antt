-- Rings of items that lead to no node twice.
use Rattle.std.specs.Prelude.{◌≡◌, ℕ, ◌<◌, ◌≤◌, List, Option, Some, None, length, AllPairs, slice_index_or, slice_range}
use Rattle.bud_base.specs.Paths.{item_at}
use Rattle.bud_base.specs.Orders.{IsCycle}
use Rattle.bud_base.specs.Rings.{IsRing}
use Rattle.bud_base.specs.declared.ids.ItemId.{ItemId}
use Rattle.bud_base.specs.declared.problems.Item.{Item}
use Rattle.timing_graph.specs.declared.rings.Part.{Part}

-- no two of the items lead to one node
abbrev pub EnterOnce : List Item → List ItemId → Type 0
EnterOnce items ring = AllPairs (λ a b. (item_at items a.0).to.0 ≡ (item_at items b.0).to.0 → ⊥) ring

-- the node behind the item at a place
abbrev pub node_behind : List Item → List ItemId → ℕ → ℕ
node_behind items ring k = (item_at items (slice_index_or ring k (record { 0 = 0 })).0).to.0

-- a part of a ring that is a ring itself and leads to no node twice
pub record IsOwnRing (items : List Item) (ring : List ItemId) (part : Part) : Type 0 where
  pub some : part.from < part.to
  pub within : part.to ≤ length ring
  pub joined : IsRing items (slice_range ring part.from part.to)
  pub once : EnterOnce items (slice_range ring part.from part.to)

-- the nodes behind the first items are seen, each at its own place, and no others
pub record AreSeen (items : List Item) (ring : List ItemId) (count : ℕ) (seen : List (Option ℕ)) : Type 0 where
  pub each : (k : ℕ) → k < count → slice_index_or seen (node_behind items ring k) None ≡ Some k
  pub below : (v k : ℕ) → slice_index_or seen v None ≡ Some k → k < count
  pub only : (v k : ℕ) → slice_index_or seen v None ≡ Some k → node_behind items ring k ≡ v

-- a cycle that leads to no node twice
pub record IsOwnCycle (items : List Item) (ring : List ItemId) : Type 0 where
  pub cycle : IsCycle items ring
  pub once : EnterOnce items ring
