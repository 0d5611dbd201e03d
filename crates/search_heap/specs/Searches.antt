-- What contracts see of a search, and what it answers.
use Rattle.std.specs.Prelude.{◌≡◌, ℕ, ◌<◌, ◌++◌, Option, Some, None, List, [], ◌∷◌, length, slice_index_or}
use Rattle.bud_base.specs.declared.ids.NodeId.{NodeId}
use Rattle.search_heap.specs.Entries.{entry_at}
use Rattle.search_heap.specs.Offers.{IsTakenAt}
use Rattle.search_heap.specs.declared.entries.Entry.{Entry}
use Rattle.search_heap.specs.declared.entries.Near.{Near}

-- an entry a node, or none, and the nodes that were taken, in order
pub record Searched : Type 0 where
  pub entries : List (Option Entry)
  pub taken : List NodeId

abbrev pub node_at : List NodeId → ℕ → ℕ
node_at nodes k = (slice_index_or nodes k (record { 0 = 0 })).0

-- the node is the one that was taken at the place
pub record IsTakenNode (entries : List (Option Entry)) (k v : ℕ) : Type 0 where
  pub entry : Entry
  pub is : entry_at entries v ≡ Some entry
  pub place : entry.place ≡ Some k

-- the places of entries are those of their nodes among the nodes that were taken
pub record AreInOrder (entries : List (Option Entry)) (taken : List NodeId) : Type 0 where
  pub nodes : (k : ℕ) → k < length taken → IsTakenNode entries k (node_at taken k)
  pub places : (v k : ℕ) (e : Entry) → entry_at entries v ≡ Some e → e.place ≡ Some k → (k < length taken) × (node_at taken k ≡ v)

-- there is no entry, and nothing was taken
pub record IsEmptied (old new : Searched) : Type 0 where
  pub size : length new.entries ≡ length old.entries
  pub none : (v : ℕ) → entry_at new.entries v ≡ None
  pub taken : new.taken ≡ []

-- every entry was taken
pub record NoneWaits (entries : List (Option Entry)) : Type 0 where
  pub each : (v : ℕ) (e : Entry) → entry_at entries v ≡ Some e → (k : ℕ) × (e.place ≡ Some k)

-- the nearest node whose entry waits is taken, if there is one
abbrev pub IsNearestAnswer : Searched → Searched → Option Near → Type 0
IsNearestAnswer old new None = (new ≡ old) × NoneWaits old.entries
IsNearestAnswer old new (Some near) = IsTakenAt old.entries new.entries (length old.taken) near × (new.taken ≡ old.taken ++ near.node ∷ [])
