-- The entries of a search.
use Rattle.std.specs.Prelude.{ℕ, ℤ, ◌+◌, Bool, true, false, Option, Some, None, List, [], ◌∷◌, slice_index_or, int_lt, if◌then◌else◌}
use Rattle.search_heap.specs.declared.entries.Entry.{Entry}

abbrev pub entry_at : List (Option Entry) → ℕ → Option Entry
entry_at entries v = slice_index_or entries v None

-- an entry waits until its node is taken
abbrev pub waits_at : Option ℕ → Bool
waits_at None = true
waits_at (Some k) = false

-- the distance is less than that of an entry that waits
abbrev pub is_nearer : ℤ → Bool → ℤ → Bool
is_nearer distance true before = int_lt distance before
is_nearer distance false before = false

-- an entry with this distance and arc that waits
abbrev pub fresh : ℤ → Option ℕ → Entry
fresh distance by = record { distance = distance; by = by; place = None }

-- a node without an entry gets one, an entry of greater distance that waits is replaced, and any other stays
abbrev pub reached_by : Option Entry → ℤ → Option ℕ → Entry
reached_by None distance by = fresh distance by
reached_by (Some e) distance by = if is_nearer distance (waits_at e.place) e.distance then fresh distance by else e

-- how many nodes have no entry
abbrev pub free_count : List (Option Entry) → ℕ
free_count [] = 0
free_count (None ∷ es) = 1 + free_count es
free_count (Some e ∷ es) = free_count es
