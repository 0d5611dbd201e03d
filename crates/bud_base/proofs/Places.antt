-- Marks and places, as a search sets them one after another.
use Rattle.std.proofs.Common.{◌≡◌, ◌≢◌, ℕ, ◌+◌, ◌<◌, ◌≤◌, false, cond, List, length, set, sym, ◌∙◌, ap, subst, inl, inr, arith, get_or-set_same, get_or-set_other, count_by}
use Rattle.std.proofs.lemmas.Bool.{cases_eq, cases_lt, cond-true, cond-false}
use Rattle.std.proofs.lemmas.List.{length-set, get_or_past}
use Rattle.std.proofs.lemmas.List.Sums.{sum_by-set}
use Rattle.bud_base.specs.Paths.{item_at}
use Rattle.bud_base.specs.Orders.{node_at}
use Rattle.bud_base.specs.Searches.{mark_at, IsPlaced, place_of, is_new, ArePlaced, AreTried, NoneRenewed}
use Rattle.bud_base.specs.declared.ids.NodeId.{NodeId}
use Rattle.bud_base.specs.declared.problems.Item.{Item}
use Rattle.bud_base.specs.declared.orders.Mark.{Mark}
use Rattle.bud_base.specs.declared.orders.Mark.TheVariants.{New, Placed}

-- a node that is placed after a node's mark is set to another was placed before
pub mark_at-set_placed : (marks : List Mark) (n : ℕ) (mark : Mark) (m : ℕ) → n < length marks → (IsPlaced mark → ⊥) → IsPlaced (mark_at (set marks n mark) m)
    → mark_at (set marks n mark) m ≡ mark_at marks m
mark_at-set_placed marks n mark m within other placed = elim (cases_eq m n) [
  | inl same ↦ absurd (other (subst IsPlaced (ap (mark_at (set marks n mark)) same ∙ get_or-set_same marks n mark New within) placed))
  | inr differs ↦ get_or-set_other marks n m mark New differs
]

-- a placed node keeps its mark where another node's is set
pub mark_at-set_kept : (marks : List Mark) (n : ℕ) (mark : Mark) (m : ℕ) → (IsPlaced (mark_at marks n) → ⊥) → IsPlaced (mark_at marks m)
    → mark_at (set marks n mark) m ≡ mark_at marks m
mark_at-set_kept marks n mark m other placed = elim (cases_eq m n) [
  | inl same ↦ absurd (other (subst (λ k. IsPlaced (mark_at marks k)) same placed))
  | inr differs ↦ get_or-set_other marks n m mark New differs
]

-- only a node below the number of nodes is placed or open
pub within_from_mark : (marks : List Mark) (n : ℕ) → mark_at marks n ≢ New → n < length marks
within_from_mark marks n marked = elim (cases_lt n (length marks)) [
  | inl below ↦ below
  | inr past ↦ absurd (marked (get_or_past marks n New past))
]

-- a node that isn't placed gets another mark that places it nowhere
pub ArePlaced-set : (items : List Item) (marks : List Mark) (order : List NodeId) (free n : ℕ) (mark : Mark) → n < length marks
    → (IsPlaced (mark_at marks n) → ⊥) → (IsPlaced mark → ⊥) → ArePlaced items marks order free → ArePlaced items (set marks n mark) order free
ArePlaced-set items marks order free n mark within before after old =
    let same : (m : ℕ) → IsPlaced (mark_at (set marks n mark) m) → mark_at (set marks n mark) m ≡ mark_at marks m
    = λ m placed. mark_at-set_placed marks n mark m within after placed in
    let was : (m : ℕ) → IsPlaced (mark_at (set marks n mark) m) → IsPlaced (mark_at marks m)
    = λ m placed. subst IsPlaced (same m placed) placed in
    let kept : (m : ℕ) → IsPlaced (mark_at marks m) → mark_at (set marks n mark) m ≡ mark_at marks m
    = λ m placed. mark_at-set_kept marks n mark m before placed in
    let size : length (set marks n mark) ≡ length marks = length-set marks n mark in
    record {
      low = λ m placed. subst (λ a. free ≤ place_of a) (sym (same m placed)) (old.low m (was m placed));
      high = λ m placed. subst (λ a. place_of a < length (set marks n mark)) (sym (same m placed)) (subst (λ k. place_of (mark_at marks m) < k) (sym size) (old.high m (was m placed)));
      here = λ m placed. subst (λ a. node_at order (place_of a) ≡ m) (sym (same m placed)) (old.here m (was m placed));
      within = λ k above below. subst (λ j. node_at order k < j) (sym size) (old.within k above (omega arith));
      stands = λ k above below.
          let stood = old.stands k above (omega arith) in
          kept (node_at order k) (subst IsPlaced (sym stood) tt) ∙ stood;
      heads = λ i inside placed. let head = old.heads i inside (was _ placed) in subst IsPlaced (sym (kept _ head)) head;
      follows = λ i inside placed.
          let head = old.heads i inside (was _ placed) in
          subst (λ a. place_of (mark_at (set marks n mark) (item_at items i).from.0) < place_of a) (sym (kept _ head))
          (subst (λ a. place_of a < place_of (mark_at marks (item_at items i).to.0)) (sym (same _ placed)) (old.follows i inside (was _ placed)));
    }

-- what is tried stays so
pub AreTried-set : (items : List Item) (marks : List Mark) (n : ℕ) (mark : Mark) (node low : ℕ) → (IsPlaced (mark_at marks n) → ⊥) → AreTried items marks node low
    → AreTried items (set marks n mark) node low
AreTried-set items marks n mark node low before tried = λ i below inside leaves.
    let placed = tried i below inside leaves in
    subst IsPlaced (sym (mark_at-set_kept marks n mark (item_at items i).to.0 before placed)) placed

-- a node all of whose items lead to placed nodes is placed before them
pub ArePlaced-more : (items : List Item) (marks : List Mark) (order : List NodeId) (free place : ℕ) (node : NodeId) → node.0 < length marks → length order ≡ length marks
    → free ≡ place + 1 → place < length marks → (IsPlaced (mark_at marks node.0) → ⊥) → AreTried items marks node.0 (length items) → ArePlaced items marks order free
    → ArePlaced items (set marks node.0 (Placed place)) (set order place node) place
ArePlaced-more items marks order free place node within sizes is room before tried old =
    let new : List Mark = set marks node.0 (Placed place) in
    let size : length new ≡ length marks = length-set marks node.0 (Placed place) in
    let here : mark_at new node.0 ≡ Placed place = get_or-set_same marks node.0 (Placed place) New within in
    let other : (m : ℕ) → m ≢ node.0 → mark_at new m ≡ mark_at marks m = λ m differs. get_or-set_other marks node.0 m (Placed place) New differs in
    let kept : (m : ℕ) → IsPlaced (mark_at marks m) → mark_at new m ≡ mark_at marks m
    = λ m placed. mark_at-set_kept marks node.0 (Placed place) m before placed in
    let there : (k : ℕ) → k ≢ place → node_at (set order place node) k ≡ node_at order k
    = λ k differs. ap (λ (x : NodeId). x.0) (get_or-set_other order place k node (record { 0 = 0 }) differs) in
    let stand : node_at (set order place node) place ≡ node.0
    = ap (λ (x : NodeId). x.0) (get_or-set_same order place node (record { 0 = 0 }) (omega arith)) in
    record {
      low = λ m placed. elim (cases_eq m node.0) [
        | inl same ↦ rw (same, here) (omega arith)
        | inr differs ↦ rw (other m differs) (let above = old.low m (subst IsPlaced (other m differs) placed) in omega arith)
      ];
      high = λ m placed. elim (cases_eq m node.0) [
        | inl same ↦ rw (same, here, size) room
        | inr differs ↦ rw (other m differs, size) (old.high m (subst IsPlaced (other m differs) placed))
      ];
      here = λ m placed. elim (cases_eq m node.0) [
        | inl same ↦ rw (same, here) stand
        | inr differs ↦
            let was = subst IsPlaced (other m differs) placed in
            let above : place_of (mark_at marks m) ≢ place = (let at_least = old.low m was in omega arith) in
            rw (other m differs, there _ above) (old.here m was)
      ];
      within = λ k above below. elim (cases_eq k place) [
        | inl same ↦ rw (same, stand, size) within
        | inr differs ↦ rw (there k differs, size) (old.within k (omega arith) (omega arith))
      ];
      stands = λ k above below. elim (cases_eq k place) [
        | inl same ↦ rw (same, stand) here
        | inr differs ↦
            let stood = old.stands k (omega arith) (omega arith) in
            rw (there k differs) (kept (node_at order k) (subst IsPlaced (sym stood) tt) ∙ stood)
      ];
      heads = λ i inside placed. elim (cases_eq (item_at items i).from.0 node.0) [
        | inl leaves ↦ (let head = tried i inside inside leaves in subst IsPlaced (sym (kept _ head)) head)
        | inr differs ↦ (let head = old.heads i inside (subst IsPlaced (other _ differs) placed) in subst IsPlaced (sym (kept _ head)) head)
      ];
      follows = λ i inside placed. elim (cases_eq (item_at items i).from.0 node.0) [
        | inl leaves ↦
            let head = tried i inside inside leaves in
            rw (leaves, here, kept _ head) (let above = old.low _ head in omega arith)
        | inr differs ↦
            let was = subst IsPlaced (other _ differs) placed in
            let head = old.heads i inside was in
            rw (other _ differs, kept _ head) (old.follows i inside was)
      ];
    }

count_new-set : (marks : List Mark) (n : ℕ) (mark : Mark) → n < length marks
    → count_by is_new (set marks n mark) + cond (is_new (mark_at marks n)) 1 0 ≡ count_by is_new marks + cond (is_new mark) 1 0
count_new-set marks n mark within = sum_by-set (λ m. cond (is_new m) 1 0) marks n mark New within

-- a new node that gets another mark leaves one new node less
pub count_new-less : (marks : List Mark) (n : ℕ) (mark : Mark) → n < length marks → mark_at marks n ≡ New → is_new mark ≡ false
    → count_by is_new marks ≡ count_by is_new (set marks n mark) + 1
count_new-less marks n mark within new marked =
    let before : cond {A = ℕ} (is_new (mark_at marks n)) 1 0 ≡ 1 = cond-true (is_new (mark_at marks n)) 1 0 (ap is_new new) in
    let after : cond {A = ℕ} (is_new mark) 1 0 ≡ 0 = cond-false (is_new mark) 1 0 marked in
    let counted = count_new-set marks n mark within in
    omega arith

-- and any other node leaves as many
pub count_new-kept : (marks : List Mark) (n : ℕ) (mark : Mark) → n < length marks → is_new (mark_at marks n) ≡ false → is_new mark ≡ false
    → count_by is_new marks ≡ count_by is_new (set marks n mark)
count_new-kept marks n mark within other marked =
    let before : cond {A = ℕ} (is_new (mark_at marks n)) 1 0 ≡ 0 = cond-false (is_new (mark_at marks n)) 1 0 other in
    let after : cond {A = ℕ} (is_new mark) 1 0 ≡ 0 = cond-false (is_new mark) 1 0 marked in
    let counted = count_new-set marks n mark within in
    omega arith

-- a node that gets a mark is new no more
pub NoneRenewed-set : (old marks : List Mark) (n : ℕ) (mark : Mark) → n < length marks → mark ≢ New → NoneRenewed old marks → NoneRenewed old (set marks n mark)
NoneRenewed-set old marks n mark within marked kept = λ m new. elim (cases_eq m n) [
  | inl same ↦ absurd (marked (sym (get_or-set_same marks n mark New within) ∙ (sym (ap (mark_at (set marks n mark)) same) ∙ new)))
  | inr differs ↦ kept m (sym (get_or-set_other marks n m mark New differs) ∙ new)
]
