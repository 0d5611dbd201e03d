-- A search that spreads from nodes with excess: what it found, and which nodes it took.
use Rattle.std.specs.Prelude.{◌≡◌, ◌≢◌, ℕ, ℤ, pos, ◌+◌, ◌<◌, ◌+ℤ◌, ◌<ℤ◌, ◌≤ℤ◌, ◌⊎◌, Option, Some, None, List, length, map, slice_index_or, slice_set, int_lt, if◌then◌else◌}
use Rattle.residual.specs.Arcs.{reduced_cost}
use Rattle.residual.specs.Leaving.{leaving}
use Rattle.residual.specs.Networks.{Network, IsKey, residual, excess_at}
use Rattle.search_heap.specs.Entries as heap
use Rattle.search_heap.specs.declared.entries.Entry.{Entry as Found}
use Rattle.search_heap.specs.declared.entries.Near.{Near}
use Rattle.flow_solver.specs.Entries.{entry_at}
use Rattle.flow_solver.specs.declared.entries.Entry.{Entry}

abbrev pub found_at : List (Option Found) → ℕ → Option Found
found_at found v = slice_index_or found v None

-- what was found of a node, once it was taken
abbrev pub taken_at : Found → Option ℕ → Option Entry
taken_at f None = None
taken_at f (Some k) = Some (record { distance = f.distance; by = f.by; place = k })

abbrev pub taken_of : Option Found → Option Entry
taken_of None = None
taken_of (Some f) = taken_at f f.place

-- the entries of the nodes that were taken
abbrev pub entries_of : List (Option Found) → List (Option Entry)
entries_of found = map taken_of found

-- the arc of the key has room and leads to the node, from one that was taken before
pub record IsFoundOver (net : Network) (entries : List (Option Entry)) (v : ℕ) (f : Found) (key : ℕ) : Type 0 where
  pub is_key : IsKey net key
  pub to : (residual net key).to.0 ≡ v
  pub room : pos 0 <ℤ (residual net key).room
  pub before : Entry
  pub from : entry_at entries (residual net key).from.0 ≡ Some before
  pub earlier : (k : ℕ) → f.place ≡ Some k → before.place < k
  pub distance : f.distance ≡ before.distance +ℤ reduced_cost net.potentials (residual net key)

-- a search begins at nodes with excess, and comes to any other over an arc
abbrev pub HasReason : Network → List (Option Entry) → ℕ → Found → Option ℕ → Type 0
HasReason net entries v f None = (f.distance ≡ pos 0) × (pos 0 <ℤ excess_at net v)
HasReason net entries v f (Some key) = IsFoundOver net entries v f key

-- a node was found at no more than this distance
pub record IsFoundWithin (found : List (Option Found)) (v : ℕ) (distance : ℤ) : Type 0 where
  pub entry : Found
  pub is : found_at found v ≡ Some entry
  pub within : entry.distance ≤ℤ distance

-- the search began at some node, which has excess
pub record HasBegun (net : Network) (found : List (Option Found)) : Type 0 where
  pub node : ℕ
  pub below : node < net.nodes + 1
  pub entry : Found
  pub is : found_at found node ≡ Some entry
  pub distance : entry.distance ≡ pos 0
  pub excess : pos 0 <ℤ excess_at net node

-- so many nodes are taken, none farther than `last`, and none that waits is nearer; over each arc that was looked at and has room, from a node
-- that is taken, its other node was found
pub record IsSpread (net : Network) (entries : List (Option Entry)) (found : List (Option Found)) (last : ℤ) (count : ℕ) (IsLookedAt : ℕ → Type 0) : Type 0 where
  pub size : length entries ≡ net.nodes + 1
  pub found_size : length found ≡ net.nodes + 1
  pub same : (v : ℕ) → entry_at entries v ≡ taken_of (found_at found v)
  pub reasons : (v : ℕ) (f : Found) → found_at found v ≡ Some f → HasReason net entries v f f.by
  pub least : (v : ℕ) (f : Found) → found_at found v ≡ Some f → pos 0 ≤ℤ f.distance
  pub near : (v k : ℕ) (f : Found) → found_at found v ≡ Some f → f.place ≡ Some k → f.distance ≤ℤ last
  pub few : (v k : ℕ) (f : Found) → found_at found v ≡ Some f → f.place ≡ Some k → k < count
  pub far : (v : ℕ) (f : Found) → found_at found v ≡ Some f → f.place ≡ None → last ≤ℤ f.distance
  pub covered : (key : ℕ) (e : Entry) → IsKey net key → IsLookedAt key → pos 0 <ℤ (residual net key).room → entry_at entries (residual net key).from.0 ≡ Some e
      → IsFoundWithin found (residual net key).to.0 (e.distance +ℤ reduced_cost net.potentials (residual net key))
  pub begun : HasBegun net found

-- every arc was looked at
abbrev pub Every : ℕ → Type 0
Every key = Unit {0}

-- the arc leaves another node, or is one of the first so many that leave this one
abbrev pub IsScanned : Network → ℕ → ℕ → ℕ → Type 0
IsScanned net v count key = ((residual net key).from.0 ≢ v) ⊎ ((place : ℕ) × (place < count) × (slice_index_or (leaving net v) place 0 ≡ key))

-- the node was taken last, and so many of its arcs were looked at
pub record IsScanning (net : Network) (entries : List (Option Entry)) (found : List (Option Found)) (near : Near) (count scanned : ℕ) : Type 0 where
  pub spread : IsSpread net entries found near.distance count (IsScanned net near.node.0 scanned)
  pub entry : Entry
  pub is : entry_at entries near.node.0 ≡ Some entry
  pub distance : entry.distance ≡ near.distance

-- what was found after a look along an arc from a node at a distance
abbrev pub looked_along : Network → ℤ → ℕ → List (Option Found) → List (Option Found)
looked_along net distance key found =
    if int_lt (pos 0) (residual net key).room
    then slice_set found (residual net key).to.0
    (Some (heap.reached_by (found_at found (residual net key).to.0) (distance +ℤ reduced_cost net.potentials (residual net key)) (Some key)))
    else found
