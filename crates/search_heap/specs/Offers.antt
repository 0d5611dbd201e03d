-- Offers of the nodes whose entries wait.
use Rattle.std.specs.Prelude.{◌≡◌, ℕ, ℤ, ◌<◌, ◌≤ℤ◌, ◌<ℤ◌, Option, Some, None, List, length, slice_index_or, slice_set}
use Rattle.search_heap.specs.Entries.{entry_at}
use Rattle.search_heap.specs.Heaps.{near_at, far, IsHeap}
use Rattle.search_heap.specs.declared.entries.Entry.{Entry}
use Rattle.search_heap.specs.declared.entries.Near.{Near}

-- the offer at place k is that of an entry that waits
pub record IsOffered (entries : List (Option Entry)) (places : List ℕ) (k : ℕ) (near : Near) : Type 0 where
  pub entry : Entry
  pub is : entry_at entries near.node.0 ≡ Some entry
  pub waiting : entry.place ≡ None
  pub distance : entry.distance ≡ near.distance
  pub place : slice_index_or places near.node.0 0 ≡ k

-- the entry of the node has its offer
pub record HasOffer (offers : List Near) (places : List ℕ) (count v : ℕ) : Type 0 where
  pub below : slice_index_or places v 0 < count
  pub node : (near_at offers (slice_index_or places v 0)).node.0 ≡ v

-- the first offers, so many, are those of the entries that wait
pub record AreOffered (entries : List (Option Entry)) (offers : List Near) (places : List ℕ) (count : ℕ) : Type 0 where
  pub each : (k : ℕ) → k < count → IsOffered entries places k (near_at offers k)
  pub nodes : (v : ℕ) (e : Entry) → entry_at entries v ≡ Some e → e.place ≡ None → HasOffer offers places count v

-- and they are a heap
pub record IsHeaped (entries : List (Option Entry)) (offers : List Near) (places : List ℕ) (count : ℕ) : Type 0 where
  pub offered : AreOffered entries offers places count
  pub heap : IsHeap count (far offers)
  pub offer_size : length offers ≡ length entries
  pub place_size : length places ≡ length entries

-- the node's entry waits, and is farther than this
pub record IsFarther (entries : List (Option Entry)) (v : ℕ) (distance : ℤ) : Type 0 where
  pub entry : Entry
  pub is : entry_at entries v ≡ Some entry
  pub waiting : entry.place ≡ None
  pub farther : distance <ℤ entry.distance

-- an entry that waits was taken at a place, and no other that waits is nearer
pub record IsTakenAt (old new : List (Option Entry)) (place : ℕ) (near : Near) : Type 0 where
  pub entry : Entry
  pub is : entry_at old near.node.0 ≡ Some entry
  pub waiting : entry.place ≡ None
  pub distance : entry.distance ≡ near.distance
  pub nearest : (v : ℕ) (e : Entry) → entry_at old v ≡ Some e → e.place ≡ None → near.distance ≤ℤ e.distance
  pub taken : new ≡ slice_set old near.node.0 (Some (record { distance = entry.distance; by = entry.by; place = Some place }))
