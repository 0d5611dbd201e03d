-- Marks that spread along the items of nodes in order, forwards from starts and backwards from ends.
use Rattle.std.proofs.Common.{◌≡◌, ℕ, ◌+◌, ◌<◌, ◌≤◌, Bool, true, false, List, [], ◌∷◌, ◌++◌, length, get_or, set, refl, sym, ◌∙◌, ap, subst, inl, inr, arith}
use Rattle.std.proofs.lemmas.Bool.{cases_eq, both_ways}
use Rattle.bud_base.specs.Paths.{Joins, item_at, start_at, end_at}
use Rattle.bud_base.specs.Orders.{node_at, IsOrder, IsReached, Reaches}
use Rattle.bud_base.specs.Markings.{IsMarked, NoneMarked, Marks, HasStart, HasEnd, HasItem, LeadsToMarked, NamesOwnNodes, AreReached, AreReaching}
use Rattle.bud_base.proofs.Joining.{Joins-append}
use Rattle.bud_base.proofs.MarkLemmas.{IsMarked-set, IsMarked-set_here, IsMarked-set_cases}
use Rattle.bud_base.specs.declared.ids.NodeId.{NodeId}
use Rattle.bud_base.specs.declared.ids.ItemId.{ItemId}
use Rattle.bud_base.specs.declared.problems.Item.{Item}
use Rattle.bud_base.specs.declared.problems.Problem.{Problem}

-- one item on from a node that a start leads to
IsReached-more : (p : Problem) (a i : ℕ) → i < length p.items → (item_at p.items i).from.0 ≡ a → IsReached p a → IsReached p (item_at p.items i).to.0
IsReached-more p a i within leaves reached = record {
  start = reached.start;
  items = reached.items ++ (record { 0 = i } ∷ []);
  within = reached.within;
  joined = Joins-append p.items reached.items (record { 0 = i } ∷ []) _ a _ reached.joined (within, leaves, refl);
}

-- one item back from a node that leads to an end
Reaches-more : (p : Problem) (a i : ℕ) → i < length p.items → (item_at p.items i).from.0 ≡ a → Reaches p (item_at p.items i).to.0 → Reaches p a
Reaches-more p a i within leaves reaches = record {
  items = record { 0 = i } ∷ reaches.items;
  end = reaches.end;
  within = reaches.within;
  joined = (within, leaves, reaches.joined);
}

-- the marks have spread along the items of the first nodes of the order
pub record IsSpread (p : Problem) (order : List NodeId) (marks : List Bool) (done : ℕ) : Type 0 where
  pub only : (n : ℕ) → IsMarked marks n → IsReached p n
  pub starts : (s : ℕ) → s < length p.starts → IsMarked marks (start_at p.starts s).node.0
  pub heads : (i j : ℕ) → i < length p.items → j < done → (item_at p.items i).from.0 ≡ node_at order j → IsMarked marks (item_at p.items i).from.0
      → IsMarked marks (item_at p.items i).to.0

pub IsSpread-first : (p : Problem) (order : List NodeId) (old marks : List Bool) → NoneMarked old → Marks (HasStart p.starts (length p.starts)) old marks → IsSpread p order marks 0
IsSpread-first p order old marks none begun = record {
  only = λ n marked. elim (begun.only n marked) [
    | inl before ↦ absurd (none n before)
    | inr has ↦ record { start = has.0; items = []; within = has.1; joined = has.2 }
  ];
  starts = λ s within. begun.all _ (s, within, refl);
  heads = λ i j within below. absurd (omega arith);
}

-- the next node is marked, and so become the heads of its items
pub IsSpread-marked : (p : Problem) (order : List NodeId) (items : List Item) (old marks : List Bool) (k node : ℕ) → items ≡ p.items → node ≡ node_at order k
    → IsOrder p.nodes p.items order → k < length order → IsMarked old node → Marks (HasItem items (length items) node) old marks → IsSpread p order old k
    → IsSpread p order marks (k + 1)
IsSpread-marked p order items old marks k node same_items same_node in_order here marked_node more_marks so_far =
    let marked : IsMarked old (node_at order k) = rw same_node at marked_node in
    let more : Marks (HasItem p.items (length p.items) (node_at order k)) old marks = rw (same_node, same_items) at more_marks in
    record {
      only = λ n now. elim (more.only n now) [
        | inl before ↦ so_far.only n before
        | inr has ↦ subst (IsReached p) has.3 (IsReached-more p (node_at order k) has.0 has.1 has.2 (so_far.only _ marked))
      ];
      starts = λ s within. more.kept _ (so_far.starts s within);
      heads = λ i j within below leaves now. elim (cases_eq j k) [
        | inl same ↦ more.all _ (i, within, leaves ∙ ap (node_at order) same, refl)
        | inr differs ↦ elim (more.only _ now) [
          | inl before ↦ more.kept _ (so_far.heads i j within (omega arith) leaves before)
          | inr has ↦
              let place_k : in_order.place (item_at p.items has.0).from.0 ≡ k = ap in_order.place has.2 ∙ in_order.at_place k (omega (arith, in_order.size)) in
              let place_j : in_order.place (item_at p.items has.0).to.0 ≡ j = ap in_order.place (has.3 ∙ leaves) ∙ in_order.at_place j (omega (arith, in_order.size)) in
              let later = in_order.follows has.0 has.1 in
              absurd (omega arith)
        ]
      ];
    }

-- the next node isn't marked
pub IsSpread-unmarked : (p : Problem) (order : List NodeId) (marks : List Bool) (k node : ℕ) → node ≡ node_at order k → get_or marks node false ≡ false → IsSpread p order marks k
    → IsSpread p order marks (k + 1)
IsSpread-unmarked p order marks k node same_node unmarked_node so_far =
    let unmarked : get_or marks (node_at order k) false ≡ false = rw same_node at unmarked_node in
    record {
      only = so_far.only;
      starts = so_far.starts;
      heads = λ i j within below leaves now. elim (cases_eq j k) [
        | inl same ↦ absurd (both_ways (get_or marks (node_at order k) false) unmarked (subst (IsMarked marks) (leaves ∙ ap (node_at order) same) now))
        | inr differs ↦ so_far.heads i j within (omega arith) leaves now
      ];
    }

-- marks that have spread along all items follow items that join up
IsMarked-along : (p : Problem) (order : List NodeId) (marks : List Bool) (done : ℕ) → length order ≤ done → NamesOwnNodes p → IsOrder p.nodes p.items order
    → IsSpread p order marks done → (is : List ItemId) (a b : ℕ) → IsMarked marks a → Joins p.items a is b → IsMarked marks b
IsMarked-along p order marks done all names in_order spread [] a b marked joined = subst (IsMarked marks) joined marked
IsMarked-along p order marks done all names in_order spread (i ∷ is) a b marked joined =
    let below = (names.items i.0 (item_at [] 0) joined.0).from in
    let stands = in_order.stands (item_at p.items i.0).from.0 below in
    let inside : in_order.place (item_at p.items i.0).from.0 < done = (let placed = in_order.placed (item_at p.items i.0).from.0 below in omega (arith, in_order.size)) in
    IsMarked-along p order marks done all names in_order spread is (item_at p.items i.0).to.0 b
    (spread.heads i.0 (in_order.place (item_at p.items i.0).from.0) joined.0 inside (sym stands) (subst (IsMarked marks) (sym joined.1) marked))
    joined.2

pub AreReached-from_spread : (p : Problem) (order : List NodeId) (marks : List Bool) (done : ℕ) → length order ≤ done → NamesOwnNodes p → IsOrder p.nodes p.items order
    → IsSpread p order marks done → AreReached p marks
AreReached-from_spread p order marks done all names in_order spread = record {
  only = spread.only;
  all = λ n reached. IsMarked-along p order marks done all names in_order spread reached.items _ n (spread.starts reached.start reached.within) reached.joined;
}

-- the nodes of the order from a place on are marked where an item of theirs leads to a marked one
pub record IsPulled (p : Problem) (order : List NodeId) (marks : List Bool) (left : ℕ) : Type 0 where
  pub only : (n : ℕ) → IsMarked marks n → Reaches p n
  pub ends : (e : ℕ) → e < length p.ends → IsMarked marks (end_at p.ends e).node.0
  pub tails : (i j : ℕ) → i < length p.items → left ≤ j → j < length order → (item_at p.items i).from.0 ≡ node_at order j → IsMarked marks (item_at p.items i).to.0
      → IsMarked marks (item_at p.items i).from.0

pub IsPulled-first : (p : Problem) (order : List NodeId) (old marks : List Bool) (left : ℕ) → left ≡ length order → NoneMarked old
    → Marks (HasEnd p.ends (length p.ends)) old marks → IsPulled p order marks left
IsPulled-first p order old marks left all none begun = record {
  only = λ n marked. elim (begun.only n marked) [
    | inl before ↦ absurd (none n before)
    | inr has ↦ record { items = []; end = has.0; within = has.1; joined = sym has.2 }
  ];
  ends = λ e within. begun.all _ (e, within, refl);
  tails = λ i j within above below. absurd (omega arith);
}

-- an item of the next node leads to a marked one
pub IsPulled-marked : (p : Problem) (order : List NodeId) (items : List Item) (marks : List Bool) (left k node : ℕ) → items ≡ p.items → node ≡ node_at order k
    → IsOrder p.nodes p.items order → left ≡ k + 1 → left ≤ length order → node < length marks → LeadsToMarked items marks node → IsPulled p order marks left
    → IsPulled p order (set marks node true) k
IsPulled-marked p order items marks left k node same_items same_node in_order one room within_marks leads_on so_far =
    let within : node_at order k < length marks = rw same_node at within_marks in
    let leads : LeadsToMarked p.items marks (node_at order k) = rw (same_node, same_items) at leads_on in
    rw same_node record {
      only = λ n now. elim (IsMarked-set_cases marks (node_at order k) n now) [
        | inl before ↦ so_far.only n before
        | inr same ↦ subst (Reaches p) (sym same) (Reaches-more p (node_at order k) leads.0 leads.1 leads.2 (so_far.only _ leads.3))
      ];
      ends = λ e inside. IsMarked-set marks (node_at order k) _ within (so_far.ends e inside);
      tails = λ i j inside above below leaves now. elim (cases_eq j k) [
        | inl same ↦ IsMarked-set_here marks (node_at order k) _ within (leaves ∙ ap (node_at order) same)
        | inr differs ↦ elim (IsMarked-set_cases marks (node_at order k) _ now) [
          | inl before ↦ IsMarked-set marks (node_at order k) _ within (so_far.tails i j inside (omega arith) below leaves before)
          | inr at_k ↦
              let place_j : in_order.place (item_at p.items i).from.0 ≡ j = ap in_order.place leaves ∙ in_order.at_place j (omega (arith, in_order.size)) in
              let place_k : in_order.place (item_at p.items i).to.0 ≡ k = ap in_order.place at_k ∙ in_order.at_place k (omega (arith, in_order.size)) in
              let later = in_order.follows i inside in
              absurd (omega arith)
        ]
      ];
    }

-- no item of the next node leads to a marked one
pub IsPulled-unmarked : (p : Problem) (order : List NodeId) (items : List Item) (marks : List Bool) (left k node : ℕ) → items ≡ p.items → node ≡ node_at order k → left ≡ k + 1
    → (LeadsToMarked items marks node → ⊥) → IsPulled p order marks left → IsPulled p order marks k
IsPulled-unmarked p order items marks left k node same_items same_node one none_on so_far =
    let none : LeadsToMarked p.items marks (node_at order k) → ⊥ = rw (same_node, same_items) at none_on in
    record {
      only = so_far.only;
      ends = so_far.ends;
      tails = λ i j inside above below leaves now. elim (cases_eq j k) [
        | inl same ↦ absurd (none (i, inside, leaves ∙ ap (node_at order) same, now))
        | inr differs ↦ so_far.tails i j inside (omega arith) below leaves now
      ];
    }

IsMarked-back : (p : Problem) (order : List NodeId) (marks : List Bool) → NamesOwnNodes p → IsOrder p.nodes p.items order → IsPulled p order marks 0
    → (is : List ItemId) (a b : ℕ) → IsMarked marks b → Joins p.items a is b → IsMarked marks a
IsMarked-back p order marks names in_order pulled [] a b marked joined = subst (IsMarked marks) (sym joined) marked
IsMarked-back p order marks names in_order pulled (i ∷ is) a b marked joined =
    let below = (names.items i.0 (item_at [] 0) joined.0).from in
    let stands = in_order.stands (item_at p.items i.0).from.0 below in
    let inside : in_order.place (item_at p.items i.0).from.0 < length order = (let placed = in_order.placed (item_at p.items i.0).from.0 below in omega (arith, in_order.size)) in
    subst (IsMarked marks) joined.1
    (pulled.tails i.0 (in_order.place (item_at p.items i.0).from.0) joined.0 (omega arith) inside (sym stands)
    (IsMarked-back p order marks names in_order pulled is (item_at p.items i.0).to.0 b marked joined.2))

pub AreReaching-from_pulled : (p : Problem) (order : List NodeId) (marks : List Bool) → NamesOwnNodes p → IsOrder p.nodes p.items order → IsPulled p order marks 0
    → AreReaching p marks
AreReaching-from_pulled p order marks names in_order pulled = record {
  only = pulled.only;
  all = λ n reaches. IsMarked-back p order marks names in_order pulled reaches.items n _ (pulled.ends reaches.end reaches.within) reaches.joined;
}
