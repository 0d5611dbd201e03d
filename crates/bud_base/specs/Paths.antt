-- The paths of a raw problem, their slack, and the least slack.
use Rattle.std.specs.Prelude.{◌≡◌, ℕ, ℤ, pos, ◌+ℤ◌, ◌-ℤ◌, ◌≤ℤ◌, ◌<◌, List, [], ◌∷◌, length, slice_index_or}
use Rattle.bud_base.specs.declared.ids.ItemId.{ItemId}
use Rattle.bud_base.specs.declared.problems.Item.{Item}
use Rattle.bud_base.specs.declared.problems.Start.{Start}
use Rattle.bud_base.specs.declared.problems.End.{End}
use Rattle.bud_base.specs.declared.problems.Problem.{Problem}

-- the item, start or end of a number below the list's length
abbrev pub item_at : List Item → ℕ → Item
item_at items i = slice_index_or items i (record { from = record { 0 = 0 }; to = record { 0 = 0 }; least = pos 0; greatest = pos 0; weight = 0 })

abbrev pub start_at : List Start → ℕ → Start
start_at starts s = slice_index_or starts s (record { node = record { 0 = 0 }; offset = pos 0 })

abbrev pub end_at : List End → ℕ → End
end_at ends e = slice_index_or ends e (record { node = record { 0 = 0 }; require = pos 0 })

-- the items join up: they lead from node a to node b, each going on where the one before ended
abbrev pub Joins : List Item → ℕ → List ItemId → ℕ → Type 0
Joins items a [] b = a ≡ b
Joins items a (i ∷ is) b = (i.0 < length items) × ((item_at items i.0).from.0 ≡ a) × Joins items (item_at items i.0).to.0 is b

-- a start's number, a list of items, which may be empty, and an end's number
pub record Path : Type 0 where
  pub start : ℕ
  pub items : List ItemId
  pub end : ℕ

-- the items lead from the start's node to the end's node
pub record IsPath (p : Problem) (path : Path) : Type 0 where
  pub start : path.start < length p.starts
  pub end : path.end < length p.ends
  pub joined : Joins p.items (start_at p.starts path.start).node.0 path.items (end_at p.ends path.end).node.0

-- what items add up to under given delays, in ps
abbrev pub sum_along : (ItemId → ℤ) → List ItemId → ℤ
sum_along delay [] = pos 0
sum_along delay (i ∷ is) = delay i +ℤ sum_along delay is

-- what a path may take: the end's required time less the start's offset
abbrev pub room : Problem → Path → ℤ
room p path = (end_at p.ends path.end).require -ℤ (start_at p.starts path.start).offset

-- the room that the delays leave
abbrev pub slack : Problem → (ItemId → ℤ) → Path → ℤ
slack p delay path = room p path -ℤ sum_along delay path.items

-- an item's least delay
abbrev pub least_of : Problem → ItemId → ℤ
least_of p i = (item_at p.items i.0).least

-- a path of this slack at least delays
pub record IsPathOfSlack (p : Problem) (s : ℤ) (path : Path) : Type 0 where
  pub is_path : IsPath p path
  pub has_slack : slack p (least_of p) path ≡ s

-- no path has less slack at least delays, and one has this
pub record IsLeastSlack (p : Problem) (s : ℤ) : Type 0 where
  pub attained : (path : Path) × IsPathOfSlack p s path
  pub least : (path : Path) → IsPath p path → s ≤ℤ slack p (least_of p) path

abbrev pub HasNoPath : Problem → Type 0
HasNoPath p = (path : Path) → IsPath p path → ⊥

-- no path has negative slack at least delays
abbrev pub Meets : Problem → Type 0
Meets p = (path : Path) → IsPath p path → pos 0 ≤ℤ slack p (least_of p) path
