-- What the fields of lists stand for.
use Rattle.std.specs.Prelude.{ℕ, List, map}
use Rattle.smallvec.specs.SmallVec.{SmallVec}
use Rattle.arc_lists.specs.declared.lists.ArcLists.TheInside.{Inside}

abbrev pub items_of : SmallVec ℕ → List ℕ
items_of list = list.items

abbrev pub lists_of : Inside → List (List ℕ)
lists_of s = map items_of s.lists.items
