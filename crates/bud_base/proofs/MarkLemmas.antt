-- Marks of nodes, set one after another.
use Rattle.std.proofs.Common.{◌≡◌, ℕ, ◌+◌, ◌<◌, ◌≤◌, ◌⊎◌, Bool, true, false, List, length, get_or, set, Option, Some, None, refl, sym, ◌∙◌, ap, subst, inl, inr, arith, get_or-set_same, get_or-set_other}
use Rattle.std.proofs.lemmas.Bool.{cases_eq, cases_lt, both_ways}
use Rattle.bud_base.specs.Paths.{item_at, start_at, end_at}
use Rattle.bud_base.specs.Leaving.{leaving_from}
use Rattle.bud_base.specs.Markings.{IsMarked, Marks, HasStart, HasEnd, HasItem, LeadsToMarked}
use Rattle.bud_base.proofs.LeavingLemmas.{leaving_from-some, leaving_from-none}
use Rattle.bud_base.specs.declared.ids.ItemId.{ItemId}
use Rattle.bud_base.specs.declared.problems.Item.{Item}
use Rattle.bud_base.specs.declared.problems.Start.{Start}
use Rattle.bud_base.specs.declared.problems.End.{End}

pub IsMarked-set : (marks : List Bool) (m n : ℕ) → m < length marks → IsMarked marks n → IsMarked (set marks m true) n
IsMarked-set marks m n within marked = elim (cases_eq n m) [
  | inl same ↦ rw same (get_or-set_same marks m true false within)
  | inr differs ↦ get_or-set_other marks m n true false differs ∙ marked
]

pub IsMarked-set_here : (marks : List Bool) (m n : ℕ) → m < length marks → n ≡ m → IsMarked (set marks m true) n
IsMarked-set_here marks m n within same = rw same (get_or-set_same marks m true false within)

pub IsMarked-set_cases : (marks : List Bool) (m n : ℕ) → IsMarked (set marks m true) n → IsMarked marks n ⊎ (n ≡ m)
IsMarked-set_cases marks m n marked = elim (cases_eq n m) [
  | inl same ↦ inr same
  | inr differs ↦ inl (sym (get_or-set_other marks m n true false differs) ∙ marked)
]

-- one node more is marked
Marks-more : (P Q : ℕ → Type 0) (old new : List Bool) (m : ℕ) → m < length new → ((n : ℕ) → P n → Q n) → Q m → ((n : ℕ) → Q n → P n ⊎ (n ≡ m)) → Marks P old new
    → Marks Q old (set new m true)
Marks-more P Q old new m within more here cases marks = record {
  kept = λ n marked. IsMarked-set new m n within (marks.kept n marked);
  all = λ n holds. elim (cases n holds) [ inl before ↦ IsMarked-set new m n within (marks.all n before) | inr same ↦ IsMarked-set_here new m n within same ];
  only = λ n marked. elim (IsMarked-set_cases new m n marked) [
    | inl before ↦ elim (marks.only n before) [ inl old_mark ↦ inl old_mark | inr holds ↦ inr (more n holds) ]
    | inr same ↦ inr (rw same here)
  ];
}

pub Marks-same : (P Q : ℕ → Type 0) (old new : List Bool) → ((n : ℕ) → P n → Q n) → ((n : ℕ) → Q n → P n) → Marks P old new → Marks Q old new
Marks-same P Q old new there back marks = record {
  kept = marks.kept;
  all = λ n holds. marks.all n (back n holds);
  only = λ n marked. elim (marks.only n marked) [ inl before ↦ inl before | inr holds ↦ inr (there n holds) ];
}

-- nothing is marked at first
pub Marks-none : (P : ℕ → Type 0) (marks : List Bool) → ((n : ℕ) → P n → ⊥) → Marks P marks marks
Marks-none P marks none = record { kept = λ n marked. marked; all = λ n holds. absurd (none n holds); only = λ n marked. inl marked }

below_more : (s count : ℕ) → s < count + 1 → (s < count) ⊎ (s ≡ count)
below_more s count below = elim (cases_eq s count) [ inl same ↦ inr same | inr differs ↦ inl (omega arith) ]

pub Marks-more_start : (starts : List Start) (count : ℕ) (old new : List Bool) → (start_at starts count).node.0 < length new
    → Marks (HasStart starts count) old new → Marks (HasStart starts (count + 1)) old (set new (start_at starts count).node.0 true)
Marks-more_start starts count old new within marks =
    Marks-more (HasStart starts count) (HasStart starts (count + 1)) old new (start_at starts count).node.0 within
    (λ n has. (has.0, omega (arith, has.1), has.2)) (count, omega arith, refl)
    (λ n has. elim (below_more has.0 count has.1) [
      | inl before ↦ inl (has.0, before, has.2)
      | inr same ↦ inr (sym has.2 ∙ ap (λ s. (start_at starts s).node.0) same)
    ])
    marks

pub Marks-more_end : (ends : List End) (count : ℕ) (old new : List Bool) → (end_at ends count).node.0 < length new
    → Marks (HasEnd ends count) old new → Marks (HasEnd ends (count + 1)) old (set new (end_at ends count).node.0 true)
Marks-more_end ends count old new within marks =
    Marks-more (HasEnd ends count) (HasEnd ends (count + 1)) old new (end_at ends count).node.0 within
    (λ n has. (has.0, omega (arith, has.1), has.2)) (count, omega arith, refl)
    (λ n has. elim (below_more has.0 count has.1) [
      | inl before ↦ inl (has.0, before, has.2)
      | inr same ↦ inr (sym has.2 ∙ ap (λ e. (end_at ends e).node.0) same)
    ])
    marks

pub Marks-more_item : (items : List Item) (node count : ℕ) (old new : List Bool) → (item_at items count).from.0 ≡ node → (item_at items count).to.0 < length new
    → Marks (HasItem items count node) old new → Marks (HasItem items (count + 1) node) old (set new (item_at items count).to.0 true)
Marks-more_item items node count old new leaves within marks =
    Marks-more (HasItem items count node) (HasItem items (count + 1) node) old new (item_at items count).to.0 within
    (λ n has. (has.0, omega (arith, has.1), has.2, has.3)) (count, omega arith, leaves, refl)
    (λ n has. elim (below_more has.0 count has.1) [
      | inl before ↦ inl (has.0, before, has.2, has.3)
      | inr same ↦ inr (sym has.3 ∙ ap (λ i. (item_at items i).to.0) same)
    ])
    marks

-- items of a node below the next one that leaves it are below the number from which it was sought
HasItem-found : (items : List Item) (node low : ℕ) (i : ItemId) (n : ℕ) → leaving_from items node low ≡ Some i → HasItem items i.0 node n → HasItem items low node n
HasItem-found items node low i n found has = elim (cases_lt has.0 low) [
  | inl before ↦ (has.0, before, has.2, has.3)
  | inr after ↦ absurd ((leaving_from-some items node low i found).between has.0 after has.1 has.2)
]

HasItem-none : (items : List Item) (node low n : ℕ) → leaving_from items node low ≡ None → HasItem items (length items) node n → HasItem items low node n
HasItem-none items node low n none has = elim (cases_lt has.0 low) [
  | inl before ↦ (has.0, before, has.2, has.3)
  | inr after ↦ absurd (leaving_from-none items node low none has.0 after has.1 has.2)
]

-- the heads of a node's items are marked up to the next one
pub record IsMarkingHeads (items : List Item) (node : ℕ) (next : Option ItemId) (old new : List Bool) : Type 0 where
  pub low : ℕ
  pub within : low ≤ length items
  pub from_low : next ≡ leaving_from items node low
  pub marks : Marks (HasItem items low node) old new

pub IsMarkingHeads-first : (items : List Item) (node : ℕ) (next : Option ItemId) (marks : List Bool) → next ≡ leaving_from items node 0 → IsMarkingHeads items node next marks marks
IsMarkingHeads-first items node next marks is = record {
  low = 0;
  within = omega arith;
  from_low = is;
  marks = Marks-none (HasItem items 0 node) marks (λ n has. absurd (omega (arith, has.1)));
}

pub IsMarkingHeads-more : (items : List Item) (node : ℕ) (next : Option ItemId) (i : ItemId) (after : Option ItemId) (old new : List Bool) → next ≡ Some i
    → (item_at items i.0).to.0 < length new → after ≡ leaving_from items (item_at items i.0).from.0 (i.0 + 1) → IsMarkingHeads items node next old new
    → IsMarkingHeads items node after old (set new (item_at items i.0).to.0 true)
IsMarkingHeads-more items node next i after old new is head follows so_far =
    let found : leaving_from items node so_far.low ≡ Some i = sym so_far.from_low ∙ is in
    let first = leaving_from-some items node so_far.low i found in
    let before : Marks (HasItem items i.0 node) old new
    = Marks-same (HasItem items so_far.low node) (HasItem items i.0 node) old new (λ n has. (has.0, omega (arith, has.1, first.above), has.2, has.3))
    (λ n has. HasItem-found items node so_far.low i n found has) so_far.marks in
    record {
      low = i.0 + 1;
      within = omega (arith, first.within);
      from_low = follows ∙ ap (λ k. leaving_from items k (i.0 + 1)) first.leaves;
      marks = Marks-more_item items node i.0 old new first.leaves head before;
    }

pub Marks-from_heads : (items : List Item) (node : ℕ) (next : Option ItemId) (old new : List Bool) → next ≡ None → IsMarkingHeads items node next old new
    → Marks (HasItem items (length items) node) old new
Marks-from_heads items node next old new none so_far =
    Marks-same (HasItem items so_far.low node) (HasItem items (length items) node) old new (λ n has. (has.0, omega (arith, has.1, so_far.within), has.2, has.3))
    (λ n has. HasItem-none items node so_far.low n (sym so_far.from_low ∙ none) has) so_far.marks

-- no item of the node before the next one leads to a marked node
pub record IsSeekingMark (items : List Item) (node : ℕ) (next : Option ItemId) (marks : List Bool) : Type 0 where
  pub low : ℕ
  pub from_low : next ≡ leaving_from items node low
  pub unmarked : (i : ℕ) → i < low → i < length items → (item_at items i).from.0 ≡ node → IsMarked marks (item_at items i).to.0 → ⊥

pub IsSeekingMark-first : (items : List Item) (node : ℕ) (next : Option ItemId) (marks : List Bool) → next ≡ leaving_from items node 0 → IsSeekingMark items node next marks
IsSeekingMark-first items node next marks is = record { low = 0; from_low = is; unmarked = λ i below. absurd (omega arith) }

pub IsSeekingMark-more : (items : List Item) (node : ℕ) (next : Option ItemId) (i : ItemId) (after : Option ItemId) (marks : List Bool) → next ≡ Some i
    → get_or marks (item_at items i.0).to.0 false ≡ false → after ≡ leaving_from items (item_at items i.0).from.0 (i.0 + 1) → IsSeekingMark items node next marks
    → IsSeekingMark items node after marks
IsSeekingMark-more items node next i after marks is head follows so_far =
    let first = leaving_from-some items node so_far.low i (sym so_far.from_low ∙ is) in
    record {
      low = i.0 + 1;
      from_low = follows ∙ ap (λ k. leaving_from items k (i.0 + 1)) first.leaves;
      unmarked = λ j below within leaves marked. elim (cases_eq j i.0) [
        | inl same ↦ both_ways (get_or marks (item_at items i.0).to.0 false) head (subst (λ k. IsMarked marks (item_at items k).to.0) same marked)
        | inr differs ↦ elim (cases_lt j so_far.low) [
          | inl before ↦ so_far.unmarked j before within leaves marked
          | inr after_low ↦ first.between j after_low (omega arith) leaves
        ]
      ];
    }

pub LeadsToMarked-none : (items : List Item) (node : ℕ) (next : Option ItemId) (marks : List Bool) → next ≡ None → IsSeekingMark items node next marks
    → LeadsToMarked items marks node → ⊥
LeadsToMarked-none items node next marks none so_far leads = elim (cases_lt leads.0 so_far.low) [
  | inl before ↦ so_far.unmarked leads.0 before leads.1 leads.2 leads.3
  | inr after ↦ leaving_from-none items node so_far.low (sym so_far.from_low ∙ none) leads.0 after leads.1 leads.2
]

pub LeadsToMarked-here : (items : List Item) (node : ℕ) (next : Option ItemId) (i : ItemId) (marks : List Bool) → next ≡ Some i → IsMarked marks (item_at items i.0).to.0
    → IsSeekingMark items node next marks → LeadsToMarked items marks node
LeadsToMarked-here items node next i marks is head so_far =
    let first = leaving_from-some items node so_far.low i (sym so_far.from_low ∙ is) in
    (i.0, first.within, first.leaves, head)
