-- How the fields of a search keep its value.
use Rattle.std.specs.Prelude.{◌≡◌, ℕ, ◌+◌, Option, List, take, length}
use Rattle.search_heap.specs.Entries.{free_count}
use Rattle.search_heap.specs.Offers.{IsHeaped}
use Rattle.search_heap.specs.Searches.{Searched, AreInOrder}
use Rattle.bud_base.specs.declared.ids.NodeId.{NodeId}
use Rattle.search_heap.specs.declared.entries.Entry.{Entry}
use Rattle.search_heap.specs.declared.entries.Near.{Near}
use Rattle.search_heap.specs.declared.searches.Search.TheInside.{Inside}

abbrev pub searched_of : Inside → Searched
searched_of s = record { entries = s.entries.items; taken = take s.taken s.order.items }

-- the waiting entries are a heap, the others are in the order in which they were taken, and there is a place for each node
pub record AreKept (entries : List (Option Entry)) (offers : List Near) (places : List ℕ) (order : List NodeId) (waiting taken : ℕ) : Type 0 where
  pub heaped : IsHeaped entries offers places waiting
  pub ordered : AreInOrder entries (take taken order)
  pub few : waiting + taken + free_count entries ≡ length entries
  pub order_size : length order ≡ length entries

abbrev pub IsKeeping : Inside → Type 0
IsKeeping s = AreKept s.entries.items s.offers.items s.places.items s.order.items s.waiting s.taken
