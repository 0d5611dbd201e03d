-- The way of a search: the open nodes, from the root to the last one, and the items between them.
use Rattle.std.proofs.Common.{◌≡◌, ◌≢◌, ℕ, ◌+◌, ◌<◌, ◌≤◌, cond, ltb, List, length, get_or, set, refl, sym, ◌∙◌, ap, subst, inl, inr, arith, get_or-set_same, get_or-set_other}
use Rattle.std.proofs.lemmas.Bool.{cases_eq, lt-ltb, le-ltb}
use Rattle.bud_base.specs.Paths.{item_at}
use Rattle.bud_base.specs.Searches.{mark_at, IsPlaced, AreTried, LeadsTo}
use Rattle.bud_base.proofs.Places.{AreTried-set}
use Rattle.bud_base.specs.declared.ids.ItemId.{ItemId}
use Rattle.bud_base.specs.declared.problems.Item.{Item}
use Rattle.bud_base.specs.declared.orders.Mark.{Mark}
use Rattle.bud_base.specs.declared.orders.Mark.TheVariants.{New, Open, Placed}

-- the item number at a place of the way
abbrev pub id_at : List ItemId → ℕ → ℕ
id_at path k = (get_or path k (record { 0 = 0 })).0

-- the node of the way behind so many items
pub node_on : List Item → List ItemId → ℕ → ℕ → ℕ → ℕ
node_on items path depth top k = cond (ltb k depth) (item_at items (id_at path k)).from.0 top

pub node_on-below : (items : List Item) (path : List ItemId) (depth top k : ℕ) → k < depth → node_on items path depth top k ≡ (item_at items (id_at path k)).from.0
unfolding node_on
node_on-below items path depth top k below = rw (lt-ltb k depth below) refl

pub node_on-top : (items : List Item) (path : List ItemId) (depth top k : ℕ) → k ≡ depth → node_on items path depth top k ≡ top
unfolding node_on
node_on-top items path depth top k same = rw (le-ltb k depth (omega arith)) refl

id_at-set_same : (path : List ItemId) (k : ℕ) (item : ItemId) → k < length path → id_at (set path k item) k ≡ item.0
id_at-set_same path k item within = ap (λ (x : ItemId). x.0) (get_or-set_same path k item (record { 0 = 0 }) within)

id_at-set_other : (path : List ItemId) (k j : ℕ) (item : ItemId) → j ≢ k → id_at (set path k item) j ≡ id_at path j
id_at-set_other path k j item differs = ap (λ (x : ItemId). x.0) (get_or-set_other path k j item (record { 0 = 0 }) differs)

-- a way that is longer by an item has the same nodes before
pub node_on-more : (items : List Item) (path : List ItemId) (depth top : ℕ) (item : ItemId) (next k : ℕ) → depth < length path → (item_at items item.0).from.0 ≡ top → k ≤ depth
    → node_on items (set path depth item) (depth + 1) next k ≡ node_on items path depth top k
node_on-more items path depth top item next k room leaves below = elim (cases_eq k depth) [
  | inl same ↦
      node_on-below items (set path depth item) (depth + 1) next k (omega arith)
      ∙ (ap (λ i. (item_at items i).from.0) (ap (id_at (set path depth item)) same ∙ id_at-set_same path depth item room) ∙ (leaves ∙ sym (node_on-top items path depth top k same)))
  | inr differs ↦
      node_on-below items (set path depth item) (depth + 1) next k (omega arith)
      ∙ (ap (λ i. (item_at items i).from.0) (id_at-set_other path depth k item differs) ∙ sym (node_on-below items path depth top k (omega arith)))
]

-- a way that is shorter by an item has the same nodes before
pub node_on-less : (items : List Item) (path : List ItemId) (depth top less k : ℕ) → depth ≡ less + 1 → k ≤ less
    → node_on items path less (item_at items (id_at path less)).from.0 k ≡ node_on items path depth top k
node_on-less items path depth top less k one below = elim (cases_eq k less) [
  | inl same ↦
      node_on-top items path less _ k same
      ∙ (ap (λ j. (item_at items (id_at path j)).from.0) (sym same) ∙ sym (node_on-below items path depth top k (omega arith)))
  | inr differs ↦ node_on-below items path less _ k (omega arith) ∙ sym (node_on-below items path depth top k (omega arith))
]

-- each item of the way leads to the next node
pub record IsJoined (items : List Item) (path : List ItemId) (depth top : ℕ) : Type 0 where
  pub ids : (k : ℕ) → k < depth → id_at path k < length items
  pub heads : (k : ℕ) → k < depth → (item_at items (id_at path k)).to.0 ≡ node_on items path depth top (k + 1)

pub IsJoined-more : (items : List Item) (path : List ItemId) (depth top : ℕ) (item : ItemId) → depth < length path → item.0 < length items → (item_at items item.0).from.0 ≡ top
    → IsJoined items path depth top → IsJoined items (set path depth item) (depth + 1) (item_at items item.0).to.0
IsJoined-more items path depth top item room within leaves joined =
    let next : ℕ = (item_at items item.0).to.0 in
    let last : id_at (set path depth item) depth ≡ item.0 = id_at-set_same path depth item room in
    record {
      ids = λ k below. elim (cases_eq k depth) [
        | inl same ↦ rw (same, last) within
        | inr differs ↦ rw (id_at-set_other path depth k item differs) (joined.ids k (omega arith))
      ];
      heads = λ k below. elim (cases_eq k depth) [
        | inl same ↦
            ap (λ i. (item_at items i).to.0) (ap (id_at (set path depth item)) same ∙ last)
            ∙ sym (node_on-top items (set path depth item) (depth + 1) next (k + 1) (omega arith))
        | inr differs ↦
            ap (λ i. (item_at items i).to.0) (id_at-set_other path depth k item differs)
            ∙ (joined.heads k (omega arith) ∙ sym (node_on-more items path depth top item next (k + 1) room leaves (omega arith)))
      ];
    }

pub IsJoined-less : (items : List Item) (path : List ItemId) (depth top less : ℕ) → depth ≡ less + 1 → IsJoined items path depth top
    → IsJoined items path less (item_at items (id_at path less)).from.0
IsJoined-less items path depth top less one joined = record {
  ids = λ k below. joined.ids k (omega arith);
  heads = λ k below. joined.heads k (omega arith) ∙ sym (node_on-less items path depth top less (k + 1) one (omega arith));
}

-- the open nodes are those of the way, each with its place there, and the items before those of the way are tried
pub record IsWay (items : List Item) (marks : List Mark) (path : List ItemId) (depth top : ℕ) : Type 0 where
  pub joined : IsJoined items path depth top
  pub opened : (k : ℕ) → k ≤ depth → mark_at marks (node_on items path depth top k) ≡ Open k
  pub low : (n k : ℕ) → mark_at marks n ≡ Open k → k ≤ depth
  pub only : (n k : ℕ) → mark_at marks n ≡ Open k → node_on items path depth top k ≡ n
  pub tried : (k : ℕ) → k < depth → AreTried items marks (node_on items path depth top k) (id_at path k)

-- the last node of the way is open behind all its items
pub IsWay-top : (items : List Item) (marks : List Mark) (path : List ItemId) (depth top : ℕ) → IsWay items marks path depth top → mark_at marks top ≡ Open depth
IsWay-top items marks path depth top way =
    ap (mark_at marks) (sym (node_on-top items path depth top depth refl)) ∙ way.opened depth (omega arith)

open_is_not_new : (k : ℕ) (mark : Mark) → mark ≡ New → mark ≡ Open k → ⊥
open_is_not_new k mark new open_mark = (cc)

open_is_not_placed : (k j : ℕ) (mark : Mark) → mark ≡ Placed j → mark ≡ Open k → ⊥
open_is_not_placed k j mark placed open_mark = (cc)

same_depth : (k j : ℕ) (mark : Mark) → mark ≡ Open k → mark ≡ Open j → k ≡ j
same_depth k j mark one other = (cc)

pub new_is_unplaced : (mark : Mark) → mark ≡ New → IsPlaced mark → ⊥
new_is_unplaced mark new placed = subst IsPlaced new placed

pub open_is_unplaced : (k : ℕ) (mark : Mark) → mark ≡ Open k → IsPlaced mark → ⊥
open_is_unplaced k mark open_mark placed = subst IsPlaced open_mark placed

-- a new node is entered
pub IsWay-more : (items : List Item) (marks : List Mark) (path : List ItemId) (depth top : ℕ) (item : ItemId) → depth < length path
    → LeadsTo items marks top item.0 New → (item_at items item.0).to.0 < length marks → AreTried items marks top item.0 → IsWay items marks path depth top
    → IsWay items (set marks (item_at items item.0).to.0 (Open (depth + 1))) (set path depth item) (depth + 1) (item_at items item.0).to.0
IsWay-more items marks path depth top item room leads within tried way =
    let head : ℕ = (item_at items item.0).to.0 in
    let longer : List ItemId = set path depth item in
    let marked : mark_at (set marks head (Open (depth + 1))) head ≡ Open (depth + 1) = get_or-set_same marks head (Open (depth + 1)) New within in
    let other : (m : ℕ) → m ≢ head → mark_at (set marks head (Open (depth + 1))) m ≡ mark_at marks m = λ m differs. get_or-set_other marks head m (Open (depth + 1)) New differs in
    let unplaced : IsPlaced (mark_at marks head) → ⊥ = new_is_unplaced (mark_at marks head) leads.head in
    let before : (k : ℕ) → k ≤ depth → node_on items longer (depth + 1) head k ≡ node_on items path depth top k
    = λ k below. node_on-more items path depth top item head k room leads.leaves below in
    let last : (k : ℕ) → k ≡ depth + 1 → node_on items longer (depth + 1) head k ≡ head = λ k same. node_on-top items longer (depth + 1) head k same in
    let apart : (k : ℕ) → k ≤ depth → node_on items path depth top k ≢ head
    = λ k below same. open_is_not_new k (mark_at marks head) leads.head (sym (ap (mark_at marks) same) ∙ way.opened k below) in
    record {
      joined = IsJoined-more items path depth top item room leads.within leads.leaves way.joined;
      opened = λ k below. elim (cases_eq k (depth + 1)) [
        | inl same ↦ ap (mark_at (set marks head (Open (depth + 1)))) (last k same) ∙ (marked ∙ ap (λ j. Open j) (sym same))
        | inr differs ↦
            let within_way : k ≤ depth = omega arith in
            ap (mark_at (set marks head (Open (depth + 1)))) (before k within_way) ∙ (other _ (apart k within_way) ∙ way.opened k within_way)
      ];
      low = λ n k is. elim (cases_eq n head) [
        | inl same ↦ (let depths = same_depth k (depth + 1) (mark_at (set marks head (Open (depth + 1))) n) is (ap (mark_at (set marks head (Open (depth + 1)))) same ∙ marked) in omega arith)
        | inr differs ↦ (let below = way.low n k (sym (other n differs) ∙ is) in omega arith)
      ];
      only = λ n k is. elim (cases_eq n head) [
        | inl same ↦
            last k (same_depth k (depth + 1) (mark_at (set marks head (Open (depth + 1))) n) is (ap (mark_at (set marks head (Open (depth + 1)))) same ∙ marked)) ∙ sym same
        | inr differs ↦
            let was = sym (other n differs) ∙ is in
            before k (way.low n k was) ∙ way.only n k was
      ];
      tried = λ k below. elim (cases_eq k depth) [
        | inl same ↦
            let here : node_on items longer (depth + 1) head k ≡ top = before k (omega arith) ∙ node_on-top items path depth top k same in
            let place : id_at longer k ≡ item.0 = ap (id_at longer) same ∙ id_at-set_same path depth item room in
            rw (here, place) (AreTried-set items marks head (Open (depth + 1)) top item.0 unplaced tried)
        | inr differs ↦
            rw (before k (omega arith), id_at-set_other path depth k item differs)
            (AreTried-set items marks head (Open (depth + 1)) _ _ unplaced (way.tried k (omega arith)))
      ];
    }

-- the last node is placed, and the way goes back by an item
pub IsWay-less : (items : List Item) (marks : List Mark) (path : List ItemId) (depth top less place : ℕ) → depth ≡ less + 1 → top < length marks
    → IsWay items marks path depth top → IsWay items (set marks top (Placed place)) path less (item_at items (id_at path less)).from.0
IsWay-less items marks path depth top less place one within way =
    let marked : mark_at (set marks top (Placed place)) top ≡ Placed place = get_or-set_same marks top (Placed place) New within in
    let other : (m : ℕ) → m ≢ top → mark_at (set marks top (Placed place)) m ≡ mark_at marks m = λ m differs. get_or-set_other marks top m (Placed place) New differs in
    let back : ℕ = (item_at items (id_at path less)).from.0 in
    let before : (k : ℕ) → k ≤ less → node_on items path less back k ≡ node_on items path depth top k = λ k below. node_on-less items path depth top less k one below in
    let apart : (k : ℕ) → k ≤ less → node_on items path depth top k ≢ top
    = λ k below same.
    let depths = same_depth k depth (mark_at marks top) (sym (ap (mark_at marks) same) ∙ way.opened k (omega arith)) (IsWay-top items marks path depth top way) in
    absurd (omega arith) in
    let unplaced : IsPlaced (mark_at marks top) → ⊥ = open_is_unplaced depth (mark_at marks top) (IsWay-top items marks path depth top way) in
    let was : (n k : ℕ) → mark_at (set marks top (Placed place)) n ≡ Open k → (n ≢ top) × (mark_at marks n ≡ Open k)
    = λ n k is. elim (cases_eq n top) [
      | inl same ↦ absurd (open_is_not_placed k place _ (ap (mark_at (set marks top (Placed place))) same ∙ marked) is)
      | inr differs ↦ (differs, sym (other n differs) ∙ is)
    ] in
    let shorter : (n k : ℕ) → mark_at (set marks top (Placed place)) n ≡ Open k → k ≤ less
    = λ n k is.
    let open_before = was n k is in
    let below : k ≤ depth = way.low n k open_before.1 in
    let inside : k ≢ depth = λ same. open_before.0 (sym (way.only n k open_before.1) ∙ node_on-top items path depth top k same) in
    omega arith in
    record {
      joined = IsJoined-less items path depth top less one way.joined;
      opened = λ k below. ap (mark_at (set marks top (Placed place))) (before k below) ∙ (other _ (apart k below) ∙ way.opened k (omega arith));
      low = shorter;
      only = λ n k is. before k (shorter n k is) ∙ way.only n k (was n k is).1;
      tried = λ k below. rw (before k (omega arith)) (AreTried-set items marks top (Placed place) _ _ unplaced (way.tried k (omega arith)));
    }
