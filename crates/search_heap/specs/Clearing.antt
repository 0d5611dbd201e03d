-- Entries that are taken away.
use Rattle.std.specs.Prelude.{◌≡◌, ◌≢◌, ℕ, ◌<◌, Option, Some, None, List, length}
use Rattle.search_heap.specs.Entries.{entry_at}
use Rattle.search_heap.specs.declared.entries.Entry.{Entry}

-- the entries but for those of the nodes of some first places
pub record AreCleared (old new : List (Option Entry)) (node_of : ℕ → ℕ) (count : ℕ) : Type 0 where
  pub each : (v : ℕ) (e : Entry) → entry_at new v ≡ Some e → (entry_at old v ≡ Some e) × ((k : ℕ) → k < count → node_of k ≢ v)

-- as many places without an entry
pub record AreBlank (entries : List (Option Entry)) (nodes : ℕ) : Type 0 where
  pub size : length entries ≡ nodes
  pub none : (v : ℕ) → entry_at entries v ≡ None
