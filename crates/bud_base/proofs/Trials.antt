-- The items of a node, tried one after another.
use Rattle.std.proofs.Common.{◌≡◌, ℕ, ◌+◌, ◌-◌, ◌<◌, List, length, Option, Some, None, sym, ◌∙◌, ap, inl, inr, arith}
use Rattle.std.proofs.lemmas.Bool.{cases_eq, cases_lt}
use Rattle.bud_base.specs.Paths.{item_at}
use Rattle.bud_base.specs.Leaving.{leaving_from}
use Rattle.bud_base.specs.Searches.{mark_at, IsPlaced, AreTried, IsTop}
use Rattle.bud_base.proofs.LeavingLemmas.{leaving_from-some, leaving_from-none}
use Rattle.bud_base.specs.declared.ids.ItemId.{ItemId}
use Rattle.bud_base.specs.declared.ids.NodeId.{NodeId}
use Rattle.bud_base.specs.declared.problems.Item.{Item}
use Rattle.bud_base.specs.declared.orders.Mark.{Mark}

-- how many items are left from the next one on
abbrev pub rest_of : List Item → Option ItemId → ℕ
rest_of items None = 0
rest_of items (Some i) = length items - i.0

-- the items that are skipped don't leave the node
pub AreTried-found : (items : List Item) (marks : List Mark) (node low : ℕ) (i : ItemId) → AreTried items marks node low → leaving_from items node low ≡ Some i
    → AreTried items marks node i.0
AreTried-found items marks node low i tried found = λ j below within leaves. elim (cases_lt j low) [
  | inl before ↦ tried j before within leaves
  | inr after ↦ absurd ((leaving_from-some items node low i found).between j after below leaves)
]

pub AreTried-none : (items : List Item) (marks : List Mark) (node low : ℕ) → AreTried items marks node low → leaving_from items node low ≡ None
    → AreTried items marks node (length items)
AreTried-none items marks node low tried none = λ j below within leaves. elim (cases_lt j low) [
  | inl before ↦ tried j before within leaves
  | inr after ↦ absurd (leaving_from-none items node low none j after within leaves)
]

pub AreTried-more : (items : List Item) (marks : List Mark) (node low : ℕ) → AreTried items marks node low → IsPlaced (mark_at marks (item_at items low).to.0)
    → AreTried items marks node (low + 1)
AreTried-more items marks node low tried placed = λ j below within leaves. elim (cases_eq j low) [
  | inl same ↦ rw same placed
  | inr differs ↦ tried j (omega arith) within leaves
]

-- the next item of the node is behind this one
pub rest_of-next : (items : List Item) (node i : ℕ) (next : Option ItemId) → i < length items → next ≡ leaving_from items node (i + 1) → rest_of items next < length items - i
rest_of-next items node i None within is = omega arith
rest_of-next items node i (Some j) within is = omega (arith, (leaving_from-some items node (i + 1) j (sym is)).above)

-- the next item leaves the node, and those before it are tried
pub record IsNext (items : List Item) (marks : List Mark) (node i : ℕ) : Type 0 where
  pub within : i < length items
  pub leaves : (item_at items i).from.0 ≡ node
  pub tried : AreTried items marks node i

pub IsNext-from_top : (items : List Item) (marks : List Mark) (node : NodeId) (next : Option ItemId) (i : ItemId) → next ≡ Some i
    → IsTop items marks (record { node = node; next = next }) → IsNext items marks node.0 i.0
IsNext-from_top items marks node next i is top =
    let found = leaving_from-some items node.0 top.low i (sym top.next ∙ is) in
    record {
      within = found.within;
      leaves = found.leaves;
      tried = AreTried-found items marks node.0 top.low i top.tried (sym top.next ∙ is);
    }

-- one item on
pub IsTop-more : (items : List Item) (marks : List Mark) (node : NodeId) (i : ℕ) (next : Option ItemId) → IsNext items marks node.0 i
    → IsPlaced (mark_at marks (item_at items i).to.0) → next ≡ leaving_from items (item_at items i).from.0 (i + 1) → IsTop items marks (record { node = node; next = next })
IsTop-more items marks node i next here placed is = record {
  low = i + 1;
  next = is ∙ ap (λ n. leaving_from items n (i + 1)) here.leaves;
  tried = AreTried-more items marks node.0 i here.tried placed;
}

pub AreTried-from_top : (items : List Item) (marks : List Mark) (node : NodeId) (next : Option ItemId) → next ≡ None
    → IsTop items marks (record { node = node; next = next }) → AreTried items marks node.0 (length items)
AreTried-from_top items marks node next none top = AreTried-none items marks node.0 top.low top.tried (sym top.next ∙ none)
