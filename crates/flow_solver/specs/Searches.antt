-- A search: where it begins, the nodes that it took, and what it is looking for.
use Rattle.std.specs.Prelude.{◌≡◌, ◌≢◌, ℕ, ℤ, pos, ◌+◌, ◌<◌, ◌<ℤ◌, ◌≤ℤ◌, Option, Some, None, List, [], length}
use Rattle.bud_base.specs.declared.ids.NodeId.{NodeId}
use Rattle.residual.specs.Networks.{Network, excess_at}
use Rattle.search_heap.specs.Entries.{fresh}
use Rattle.search_heap.specs.Searches.{Searched}
use Rattle.flow_solver.specs.Entries.{entry_at, label_at, IsLabelling, IsEntry}
use Rattle.flow_solver.specs.Spreading.{found_at, IsSpread, Every}
use Rattle.flow_solver.specs.declared.entries.Entry.{Entry}

-- a node with excess, the root among them, if there is one
abbrev pub HasExcessAnswer : Network → Option NodeId → Type 0
HasExcessAnswer net None = (v : ℕ) → v < net.nodes + 1 → excess_at net v ≤ℤ pos 0
HasExcessAnswer net (Some node) = (node.0 < net.nodes + 1) × (pos 0 <ℤ excess_at net node.0)

-- only the node where the search begins was reached, and none was taken
pub record IsSeeded (front : Searched) (node : ℕ) : Type 0 where
  pub here : found_at front.entries node ≡ Some (fresh (pos 0) None)
  pub others : (v : ℕ) → v ≢ node → found_at front.entries v ≡ None
  pub taken : front.taken ≡ []

-- so many nodes are taken, the last at this distance; their distances are a labelling
pub record AreTaken (net : Network) (entries : List (Option Entry)) (last : ℤ) (count : ℕ) : Type 0 where
  pub size : length entries ≡ net.nodes + 1
  pub labelling : IsLabelling net (label_at entries last)
  pub each : (v : ℕ) (e : Entry) → entry_at entries v ≡ Some e → IsEntry net entries last count v e
  pub attained : (v : ℕ) × (v < length entries) × (label_at entries last v ≡ last)
  pub begun : (v : ℕ) × (v < length entries) × (label_at entries last v ≡ pos 0) × (pos 0 <ℤ excess_at net v)

-- none of the nodes that are taken lacks flow
pub record NoneLacks (net : Network) (entries : List (Option Entry)) : Type 0 where
  pub each : (v : ℕ) (e : Entry) → entry_at entries v ≡ Some e → pos 0 ≤ℤ excess_at net v

-- a search that took nodes, looked along all of their arcs, and found none that lacks flow
pub record IsSearching (net : Network) (entries : List (Option Entry)) (front : Searched) : Type 0 where
  pub last : ℤ
  pub spread : IsSpread net entries front.entries last (length front.taken) Every
  pub none : NoneLacks net entries
