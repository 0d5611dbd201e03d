-- Entries of a search: how each node that it took was reached.
use Rattle.std.specs.Prelude.{◌≡◌, ℕ, ℤ, pos, ◌<◌, ◌+ℤ◌, ◌<ℤ◌, ◌≤ℤ◌, Option, Some, None, List, slice_index_or}
use Rattle.residual.specs.Arcs.{reduced_cost}
use Rattle.residual.specs.Networks.{Network, IsKey, residual, excess_at}
use Rattle.flow_solver.specs.declared.entries.Entry.{Entry}

abbrev pub entry_at : List (Option Entry) → ℕ → Option Entry
entry_at entries v = slice_index_or entries v None

-- the residual arc by which a node was reached
abbrev pub by_of : Option Entry → Option ℕ
by_of None = None
by_of (Some e) = e.by

abbrev pub by_at : List (Option Entry) → ℕ → Option ℕ
by_at entries v = by_of (entry_at entries v)

-- how many nodes were taken before a node
abbrev pub place_of : Option Entry → ℕ
place_of None = 0
place_of (Some e) = e.place

abbrev pub place_at : List (Option Entry) → ℕ → ℕ
place_at entries v = place_of (entry_at entries v)

-- the distance of a node that was taken, and for any other that of the node taken last
abbrev pub label_of : ℤ → Option Entry → ℤ
label_of last None = last
label_of last (Some e) = e.distance

abbrev pub label_at : List (Option Entry) → ℤ → ℕ → ℤ
label_at entries last v = label_of last (entry_at entries v)

-- labels that rise along no residual arc with room by more than its reduced cost
pub record IsLabelling (net : Network) (label : ℕ → ℤ) : Type 0 where
  pub each : (key : ℕ) → IsKey net key → pos 0 <ℤ (residual net key).room
      → label (residual net key).to.0 ≤ℤ (label (residual net key).from.0 +ℤ reduced_cost net.potentials (residual net key))

-- the arc of the key has room and leads to the node from one that was taken before
pub record IsReachedOver (net : Network) (entries : List (Option Entry)) (v : ℕ) (e : Entry) (key : ℕ) : Type 0 where
  pub is_key : IsKey net key
  pub to : (residual net key).to.0 ≡ v
  pub room : pos 0 <ℤ (residual net key).room
  pub before : Entry
  pub from : entry_at entries (residual net key).from.0 ≡ Some before
  pub earlier : before.place < e.place
  pub distance : e.distance ≡ before.distance +ℤ reduced_cost net.potentials (residual net key)

-- where a search began there is excess, and any other node was reached over an arc
abbrev pub HasCauseBy : Network → List (Option Entry) → ℕ → Entry → Option ℕ → Type 0
HasCauseBy net entries v e None = (e.distance ≡ pos 0) × (pos 0 <ℤ excess_at net v)
HasCauseBy net entries v e (Some key) = IsReachedOver net entries v e key

pub record IsEntry (net : Network) (entries : List (Option Entry)) (last : ℤ) (count v : ℕ) (e : Entry) : Type 0 where
  pub cause : HasCauseBy net entries v e e.by
  pub least : pos 0 ≤ℤ e.distance
  pub most : e.distance ≤ℤ last
  pub place : e.place < count
