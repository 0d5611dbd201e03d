-- A search from a root, step by step.
use Rattle.std.proofs.Common.{◌≡◌, ◌≢◌, ℕ, ◌+◌, ◌-◌, ◌<◌, ◌≤◌, List, length, get_or, set, refl, sym, ◌∙◌, ap, subst, inl, inr, arith, get_or-set_same, get_or-set_other, count_by}
use Rattle.std.specs.List.{between}
use Rattle.std.proofs.lemmas.List.{length-set}
use Rattle.std.proofs.lemmas.List.Edits.{length-between, get_or-between}
use Rattle.std.proofs.lemmas.Bool.{cases_eq}
use Rattle.bud_base.specs.Paths.{Joins, item_at}
use Rattle.bud_base.specs.Leaving.{leaving_from}
use Rattle.bud_base.specs.Rings.{HasRing}
use Rattle.bud_base.specs.Searches.{mark_at, IsPlaced, is_new, ArePlaced, AreTried, IsTop, LeadsTo, IsArranged, NoneRenewed, AreExplored}
use Rattle.bud_base.proofs.Places.{ArePlaced-set, ArePlaced-more, AreTried-set, count_new-less, count_new-kept, NoneRenewed-set, within_from_mark}
use Rattle.bud_base.proofs.Trials.{AreTried-more}
use Rattle.bud_base.proofs.Ways.{id_at, node_on, node_on-below, node_on-top, node_on-more, IsJoined-more, IsWay, IsWay-top, IsWay-more, IsWay-less, new_is_unplaced, open_is_unplaced}
use Rattle.bud_base.proofs.Joining.{Joins-from_row}
use Rattle.bud_base.specs.declared.ids.NodeId.{NodeId}
use Rattle.bud_base.specs.declared.ids.ItemId.{ItemId}
use Rattle.bud_base.specs.declared.problems.Item.{Item}
use Rattle.bud_base.specs.declared.orders.Mark.{Mark}
use Rattle.bud_base.specs.declared.orders.Mark.TheVariants.{New, Open, Placed}
use Rattle.bud_base.specs.declared.orders.Top.{Top}

-- how far a search has come: `old` is the marks as it began
pub record IsExploring (items : List Item) (old marks : List Mark) (order : List NodeId) (path : List ItemId) (free depth root : ℕ) (top : Top) : Type 0 where
  pub placed : ArePlaced items marks order free
  pub way : IsWay items marks path depth top.node.0
  pub at_top : IsTop items marks top
  pub within : top.node.0 < length marks
  pub count : free ≡ count_by is_new marks + depth + 1
  pub room : free ≤ length marks
  pub kept : NoneRenewed old marks
  pub begun : mark_at marks root ≡ New → ⊥

-- the search begins
pub IsExploring-root : (items : List Item) (marks : List Mark) (order : List NodeId) (path : List ItemId) (free : ℕ) (top : Top) → free ≤ length marks → top.node.0 < length marks
    → mark_at marks top.node.0 ≡ New → top.next ≡ leaving_from items top.node.0 0 → IsArranged items marks order free
    → IsExploring items marks (set marks top.node.0 (Open 0)) order path free 0 top.node.0 top
IsExploring-root items marks order path free top room within new next arranged =
    let root : ℕ = top.node.0 in
    let marked : mark_at (set marks root (Open 0)) root ≡ Open 0 = get_or-set_same marks root (Open 0) New within in
    let other : (m : ℕ) → m ≢ root → mark_at (set marks root (Open 0)) m ≡ mark_at marks m = λ m differs. get_or-set_other marks root m (Open 0) New differs in
    let opened : (n k : ℕ) → mark_at (set marks root (Open 0)) n ≡ Open k → (n ≡ root) × (k ≡ 0)
    = λ n k is. elim (cases_eq n root) [
      | inl same ↦ (same, (let was : mark_at (set marks root (Open 0)) n ≡ Open 0 = ap (mark_at (set marks root (Open 0))) same ∙ marked in cc))
      | inr differs ↦ absurd (arranged.settled n k (sym (other n differs) ∙ is))
    ] in
    record {
      placed = ArePlaced-set items marks order free root (Open 0) within (new_is_unplaced _ new) (λ placed. placed) arranged.placed;
      way = record {
        joined = record { ids = λ k below. absurd (omega arith); heads = λ k below. absurd (omega arith) };
        opened = λ k below.
            let zero_depth : k ≡ 0 = omega arith in
            ap (mark_at (set marks root (Open 0))) (node_on-top items path 0 root k zero_depth) ∙ (marked ∙ ap (λ j. Open j) (sym zero_depth));
        low = λ n k is. (let found = opened n k is in omega arith);
        only = λ n k is. (let found = opened n k is in node_on-top items path 0 root k found.1 ∙ sym found.0);
        tried = λ k below. absurd (omega arith);
      };
      at_top = record { low = 0; next = next; tried = λ i below. absurd (omega arith) };
      within = rw length-set within;
      count = omega (arith, arranged.count, count_new-less marks root (Open 0) within new refl);
      room = rw length-set room;
      kept = NoneRenewed-set marks marks root (Open 0) within (λ e. (cc)) (λ n is. is);
      begun = λ is. (let contrary : Open 0 ≡ New = sym marked ∙ is in cc);
    }

-- a new node is entered
pub IsExploring-enter : (items : List Item) (old marks : List Mark) (order : List NodeId) (path : List ItemId) (free depth root : ℕ) (top : Top) (item : ItemId) (after : Top)
    → length path ≡ length marks → (item_at items item.0).to.0 < length marks → LeadsTo items marks top.node.0 item.0 New → AreTried items marks top.node.0 item.0
    → after.node.0 ≡ (item_at items item.0).to.0 → after.next ≡ leaving_from items after.node.0 0
    → IsExploring items old marks order path free depth root top
    → IsExploring items old (set marks (item_at items item.0).to.0 (Open (depth + 1))) order (set path depth item) free (depth + 1) root after
IsExploring-enter items old marks order path free depth root top item after sizes within leads tried is_head next now =
    let head : ℕ = (item_at items item.0).to.0 in
    let fewer = count_new-less marks head (Open (depth + 1)) within leads.head refl in
    record {
      placed = ArePlaced-set items marks order free head (Open (depth + 1)) within (new_is_unplaced _ leads.head) (λ placed. placed) now.placed;
      way = rw is_head (IsWay-more items marks path depth top.node.0 item (omega (arith, now.room, now.count, fewer)) leads within tried now.way);
      at_top = record { low = 0; next = next; tried = λ i below. absurd (omega arith) };
      within = rw (length-set, is_head) within;
      count = omega (arith, now.count, fewer);
      room = rw length-set now.room;
      kept = NoneRenewed-set old marks head (Open (depth + 1)) within (λ e. (cc)) now.kept;
      begun = λ is. now.begun (NoneRenewed-set marks marks head (Open (depth + 1)) within (λ e. (cc)) (λ n was. was) root is);
    }

-- the last node is placed, and it isn't the root
pub IsExploring-back : (items : List Item) (old marks : List Mark) (order : List NodeId) (path : List ItemId) (free depth root place less : ℕ) (top after : Top)
    → length order ≡ length marks → free ≡ place + 1 → depth ≡ less + 1 → AreTried items marks top.node.0 (length items)
    → after.node.0 ≡ (item_at items (id_at path less)).from.0 → after.next ≡ leaving_from items after.node.0 (id_at path less + 1)
    → IsExploring items old marks order path free depth root top
    → IsExploring items old (set marks top.node.0 (Placed place)) (set order place top.node) path place less root after
IsExploring-back items old marks order path free depth root place less top after sizes is one tried is_tail next now =
    let node : ℕ = top.node.0 in
    let open_top : mark_at marks node ≡ Open depth = IsWay-top items marks path depth node now.way in
    let unplaced : IsPlaced (mark_at marks node) → ⊥ = open_is_unplaced depth _ open_top in
    let as_many = count_new-kept marks node (Placed place) now.within (ap is_new open_top) refl in
    let entered : node_on items path depth node less ≡ (item_at items (id_at path less)).from.0 = node_on-below items path depth node less (omega arith) in
    let head : (item_at items (id_at path less)).to.0 ≡ node = now.way.joined.heads less (omega arith) ∙ node_on-top items path depth node (less + 1) (sym one) in
    let opened : mark_at marks (node_on items path depth node less) ≡ Open less = now.way.opened less (omega arith) in
    let marked : mark_at marks (node_on items path depth node less) ≢ New = λ new. (let contrary : Open less ≡ New = sym opened ∙ new in cc) in
    let before : AreTried items (set marks node (Placed place)) after.node.0 (id_at path less)
    = rw (is_tail, ← entered) (AreTried-set items marks node (Placed place) _ _ unplaced (now.way.tried less (omega arith))) in
    record {
      placed = ArePlaced-more items marks order free place top.node now.within sizes is (omega (arith, now.room)) unplaced tried now.placed;
      way = rw is_tail (IsWay-less items marks path depth node less place one now.within now.way);
      at_top = record {
        low = id_at path less + 1;
        next = next;
        tried = AreTried-more items (set marks node (Placed place)) after.node.0 (id_at path less) before
            (rw (head, get_or-set_same marks node (Placed place) New now.within) tt);
      };
      within = rw (length-set, is_tail, ← entered) (within_from_mark marks (node_on items path depth node less) marked);
      count = omega (arith, now.count, as_many);
      room = rw length-set (omega (arith, now.room));
      kept = NoneRenewed-set old marks node (Placed place) now.within (λ e. (cc)) now.kept;
      begun = λ new. now.begun (NoneRenewed-set marks marks node (Placed place) now.within (λ e. (cc)) (λ n was. was) root new);
    }

-- the root is placed, and the search is at its end
pub IsExploring-end : (items : List Item) (old marks : List Mark) (order : List NodeId) (path : List ItemId) (free depth root place : ℕ) (top : Top)
    → length order ≡ length marks → free ≡ place + 1 → depth ≡ 0 → AreTried items marks top.node.0 (length items)
    → IsExploring items old marks order path free depth root top
    → AreExplored items old (set marks top.node.0 (Placed place)) (set order place top.node) root place
IsExploring-end items old marks order path free depth root place top sizes is none tried now =
    let node : ℕ = top.node.0 in
    let open_top : mark_at marks node ≡ Open depth = IsWay-top items marks path depth node now.way in
    let unplaced : IsPlaced (mark_at marks node) → ⊥ = open_is_unplaced depth _ open_top in
    let as_many = count_new-kept marks node (Placed place) now.within (ap is_new open_top) refl in
    record {
      arranged = record {
        placed = ArePlaced-more items marks order free place top.node now.within sizes is (omega (arith, now.room)) unplaced tried now.placed;
        settled = λ n k opened. elim (cases_eq n node) [
          | inl same ↦ (let contrary : Placed place ≡ Open k = sym (ap (mark_at (set marks node (Placed place))) same ∙ get_or-set_same marks node (Placed place) New now.within) ∙ opened in cc)
          | inr differs ↦
              let was : mark_at marks n ≡ Open k = sym (get_or-set_other marks node n (Placed place) New differs) ∙ opened in
              let low : k ≤ depth = now.way.low n k was in
              differs (sym (now.way.only n k was) ∙ node_on-top items path depth node k (omega arith))
        ];
        count = omega (arith, now.count, as_many);
      };
      kept = NoneRenewed-set old marks node (Placed place) now.within (λ e. (cc)) now.kept;
      explored = λ new. now.begun (NoneRenewed-set marks marks node (Placed place) now.within (λ e. (cc)) (λ n was. was) root new);
    }

-- an item leads back to a node of the way: the items from there on are a ring
pub HasRing-from_way : (items : List Item) (old marks : List Mark) (order : List NodeId) (path : List ItemId) (free depth root : ℕ) (top : Top) (item : ItemId) (start : ℕ)
    → length path ≡ length marks → LeadsTo items marks top.node.0 item.0 (Open start) → IsExploring items old marks order path free depth root top
    → HasRing items (set path depth item) (record { from = start; to = depth + 1 })
HasRing-from_way items old marks order path free depth root top item start sizes leads now =
    let head : ℕ = (item_at items item.0).to.0 in
    let longer : List ItemId = set path depth item in
    let room : depth < length path = omega (arith, now.room, now.count) in
    let low : start ≤ depth = now.way.low head start leads.head in
    let joined = IsJoined-more items path depth top.node.0 item room leads.within leads.leaves now.way.joined in
    let size : length (between start (depth + 1) longer) ≡ depth + 1 - start = length-between longer start (depth + 1) (rw length-set (omega arith)) in
    let at_start : node_on items longer (depth + 1) head start ≡ head
    = node_on-more items path depth top.node.0 item head start room leads.leaves low ∙ now.way.only head start leads.head in
    let id : (k : ℕ) → k < length (between start (depth + 1) longer) → (get_or (between start (depth + 1) longer) k (record { 0 = 0 })).0 ≡ id_at longer (start + k)
    = λ k below. ap (λ (x : ItemId). x.0) (get_or-between longer start (depth + 1) k (record { 0 = 0 }) (omega arith)) in
    let row : Joins items (node_on items longer (depth + 1) head (start + 0)) (between start (depth + 1) longer)
    (node_on items longer (depth + 1) head (start + length (between start (depth + 1) longer)))
    = Joins-from_row items (between start (depth + 1) longer) (λ k. node_on items longer (depth + 1) head (start + k))
    (λ k below. rw (id k below) (joined.ids (start + k) (omega arith)))
    (λ k below. rw (id k below) (sym (node_on-below items longer (depth + 1) head (start + k) (omega arith))))
    (λ k below. rw (id k below) (joined.heads (start + k) (omega arith) ∙ ap (node_on items longer (depth + 1) head) (omega arith))) in
    record {
      some = omega arith;
      within = rw length-set (omega arith);
      joined = (
        head,
        subst (λ b. Joins items head (between start (depth + 1) longer) b) (node_on-top items longer (depth + 1) head (start + length (between start (depth + 1) longer)) (omega arith))
            (subst (λ a. Joins items a (between start (depth + 1) longer) (node_on items longer (depth + 1) head (start + length (between start (depth + 1) longer))))
            (ap (node_on items longer (depth + 1) head) (omega arith) ∙ at_start) row),
      );
    }
