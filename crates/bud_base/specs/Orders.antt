-- Orders of the nodes, rings of items, and the nodes that paths pass.
use Rattle.std.specs.Prelude.{◌≡◌, ℕ, ◌<◌, ◌≤◌, List, [], ◌∷◌, ◌++◌, length, slice_index_or, All}
use Rattle.bud_base.specs.Paths.{Joins, item_at, start_at, end_at, Path}
use Rattle.bud_base.specs.declared.ids.NodeId.{NodeId}
use Rattle.bud_base.specs.declared.ids.ItemId.{ItemId}
use Rattle.bud_base.specs.declared.problems.Item.{Item}
use Rattle.bud_base.specs.declared.problems.Problem.{Problem}

-- the number of the node at a place of the list
abbrev pub node_at : List NodeId → ℕ → ℕ
node_at order k = (slice_index_or order k (record { 0 = 0 })).0

-- the item joins nodes below this number
pub record IsWithinNodes (nodes : ℕ) (item : Item) : Type 0 where
  pub from : item.from.0 < nodes
  pub to : item.to.0 < nodes

-- the list has each node below `nodes` once, at the node's place, and each item leads to a later place
pub record IsOrder (nodes : ℕ) (items : List Item) (order : List NodeId) : Type 0 where
  pub place : ℕ → ℕ
  pub size : length order ≡ nodes
  pub within : (k : ℕ) → k < nodes → node_at order k < nodes
  pub at_place : (k : ℕ) → k < nodes → place (node_at order k) ≡ k
  pub placed : (n : ℕ) → n < nodes → place n < nodes
  pub stands : (n : ℕ) → n < nodes → node_at order (place n) ≡ n
  pub follows : (i : ℕ) → i < length items → place (item_at items i).from.0 < place (item_at items i).to.0

-- there is an order of the nodes that every item follows
abbrev pub HasOrder : Problem → Type 0
HasOrder p = (order : List NodeId) × IsOrder p.nodes p.items order

-- the items lead from a node back to it, and the first of them has the least number
abbrev pub IsCycle : List Item → List ItemId → Type 0
IsCycle items [] = ⊥
IsCycle items (i ∷ is) = Joins items (item_at items i.0).from.0 (i ∷ is) (item_at items i.0).from.0 × All (λ j. i.0 ≤ j.0) is

-- items lead from a start to the node
pub record IsReached (p : Problem) (n : ℕ) : Type 0 where
  pub start : ℕ
  pub items : List ItemId
  pub within : start < length p.starts
  pub joined : Joins p.items (start_at p.starts start).node.0 items n

-- items lead from the node to an end
pub record Reaches (p : Problem) (n : ℕ) : Type 0 where
  pub items : List ItemId
  pub end : ℕ
  pub within : end < length p.ends
  pub joined : Joins p.items n items (end_at p.ends end).node.0

-- the node has a path: it is reached, and it reaches
abbrev pub IsLive : Problem → ℕ → Type 0
IsLive p n = IsReached p n × Reaches p n

-- the path's items lead from its start to the node, and on from there to its end
pub record Passes (p : Problem) (path : Path) (n : ℕ) : Type 0 where
  pub before : List ItemId
  pub after : List ItemId
  pub parts : path.items ≡ before ++ after
  pub there : Joins p.items (start_at p.starts path.start).node.0 before n
  pub onward : Joins p.items n after (end_at p.ends path.end).node.0
