-- Nodes that are marked: those that starts lead to, and those that lead to ends.
use Rattle.std.specs.Prelude.{◌≡◌, ℕ, ◌<◌, ◌⊎◌, Bool, true, false, Option, Some, None, List, length, slice_index_or, All}
use Rattle.bud_base.specs.Paths.{item_at, start_at, end_at}
use Rattle.bud_base.specs.Orders.{IsWithinNodes, IsReached, Reaches}
use Rattle.bud_base.specs.declared.ids.NodeId.{NodeId}
use Rattle.bud_base.specs.declared.problems.Item.{Item}
use Rattle.bud_base.specs.declared.problems.Start.{Start}
use Rattle.bud_base.specs.declared.problems.End.{End}
use Rattle.bud_base.specs.declared.problems.Problem.{Problem}

abbrev pub IsMarked : List Bool → ℕ → Type 0
IsMarked marks n = slice_index_or marks n false ≡ true

abbrev pub NoneMarked : List Bool → Type 0
NoneMarked marks = (n : ℕ) → IsMarked marks n → ⊥

-- beside the nodes that were marked, exactly those of the fact are
pub record Marks (P : ℕ → Type 0) (old new : List Bool) : Type 0 where
  pub kept : (n : ℕ) → IsMarked old n → IsMarked new n
  pub all : (n : ℕ) → P n → IsMarked new n
  pub only : (n : ℕ) → IsMarked new n → IsMarked old n ⊎ P n

-- one of the first `count` starts, ends or items: a start or an end at the node, an item from a node to it
abbrev pub HasStart : List Start → ℕ → ℕ → Type 0
HasStart starts count n = (s : ℕ) × (s < count) × ((start_at starts s).node.0 ≡ n)

abbrev pub HasEnd : List End → ℕ → ℕ → Type 0
HasEnd ends count n = (e : ℕ) × (e < count) × ((end_at ends e).node.0 ≡ n)

abbrev pub HasItem : List Item → ℕ → ℕ → ℕ → Type 0
HasItem items count node n = (i : ℕ) × (i < count) × ((item_at items i).from.0 ≡ node) × ((item_at items i).to.0 ≡ n)

-- an item from the node to a marked one
abbrev pub LeadsToMarked : List Item → List Bool → ℕ → Type 0
LeadsToMarked items marks node = (i : ℕ) × (i < length items) × ((item_at items i).from.0 ≡ node) × IsMarked marks (item_at items i).to.0

-- the items, starts and ends name nodes of the problem
pub record NamesOwnNodes (p : Problem) : Type 0 where
  pub items : All (IsWithinNodes p.nodes) p.items
  pub starts : All (λ s. s.node.0 < p.nodes) p.starts
  pub ends : All (λ e. e.node.0 < p.nodes) p.ends

-- the marked nodes are those that a start leads to
pub record AreReached (p : Problem) (marks : List Bool) : Type 0 where
  pub only : (n : ℕ) → IsMarked marks n → IsReached p n
  pub all : (n : ℕ) → IsReached p n → IsMarked marks n

-- the marked nodes are those that lead to an end
pub record AreReaching (p : Problem) (marks : List Bool) : Type 0 where
  pub only : (n : ℕ) → IsMarked marks n → Reaches p n
  pub all : (n : ℕ) → Reaches p n → IsMarked marks n

-- the first node that lacks one of two marks
abbrev pub IsFirstUnmarked : List Bool → List Bool → Option NodeId → Type 0
IsFirstUnmarked marks others None = (n : ℕ) → n < length marks → IsMarked marks n × IsMarked others n
IsFirstUnmarked marks others (Some n) =
    (n.0 < length marks) × ((IsMarked marks n.0 × IsMarked others n.0) → ⊥) × ((m : ℕ) → m < n.0 → IsMarked marks m × IsMarked others m)
