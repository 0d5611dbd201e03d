-- The items that leave a node, found one after another.
use Rattle.std.proofs.Common.{◌≡◌, ◌≢◌, ◌==◌, ℕ, zero, suc, ◌+◌, ◌-◌, ◌<◌, ◌≤◌, List, ◌∷◌, length, drop, Some, None, refl, sym, ◌∙◌, ap, subst, inl, inr, arith, eq-eqb}
use Rattle.std.specs.List.{position_from}
use Rattle.std.specs.Option.{option_map, option_map_or}
use Rattle.std.proofs.lemmas.List.{at_drop_more, drop_all}
use Rattle.std.proofs.lemmas.Bool.{ne_eqb, cases_eq, cases_lt}
use Rattle.std.proofs.lemmas.Option.{none-some}
use Rattle.bud_base.specs.Paths.{item_at}
use Rattle.bud_base.specs.Leaving.{leaving_from}
use Rattle.bud_base.specs.declared.ids.ItemId.{ItemId}
use Rattle.bud_base.specs.declared.problems.Item.{Item}

-- one item on
pub leaving_from-step : (items : List Item) (node low : ℕ) → low < length items
    → leaving_from items node low ≡ option_map (λ i. record { 0 = i }) (position_from (λ x. x.from.0 == node) low (item_at items low ∷ drop (low + 1) items))
leaving_from-step items node low within =
    at_drop_more (λ xs. option_map (λ i. record { 0 = i }) (position_from (λ x. x.from.0 == node) low xs)) items low _ within

-- past the last item none leaves
pub leaving_from-end : (items : List Item) (node low : ℕ) → length items ≤ low → leaving_from items node low ≡ None
leaving_from-end items node low past = rw (drop_all low items past) refl

-- where the item at `low` leaves the node it is the first
pub leaving_from-here : (items : List Item) (node low : ℕ) → low < length items → (item_at items low).from.0 ≡ node
    → leaving_from items node low ≡ Some (record { 0 = low })
leaving_from-here items node low within leaves = rw (leaving_from-step items node low within, eq-eqb (item_at items low).from.0 node leaves) refl

-- and where it doesn't, the search goes on behind it
pub leaving_from-skip : (items : List Item) (node low : ℕ) → low < length items → (item_at items low).from.0 ≢ node
    → leaving_from items node low ≡ leaving_from items node (low + 1)
leaving_from-skip items node low within other = rw (leaving_from-step items node low within, ne_eqb (item_at items low).from.0 node other) refl

-- item `i` is the first from number `low` on that leaves the node
pub record IsFirstLeaving (items : List Item) (node low i : ℕ) : Type 0 where
  pub above : low ≤ i
  pub within : i < length items
  pub leaves : (item_at items i).from.0 ≡ node
  pub between : (j : ℕ) → low ≤ j → j < i → (item_at items j).from.0 ≢ node

leaving_from-some_gap : (items : List Item) (node : ℕ) (i : ItemId) (gap low : ℕ) → low + gap ≡ length items → leaving_from items node low ≡ Some i
    → IsFirstLeaving items node low i.0
leaving_from-some_gap items node i zero low size found = absurd (none-some _ (sym (leaving_from-end items node low (omega arith)) ∙ found))
leaving_from-some_gap items node i (suc gap) low size found =
    let within : low < length items = omega arith in
    elim (cases_eq (item_at items low).from.0 node) [
      | inl leaves ↦
          let same : low ≡ i.0 = ap (λ o. option_map_or (λ (x : ItemId). x.0) o low) (sym (leaving_from-here items node low within leaves) ∙ found) in
          record {
            above = omega arith;
            within = omega arith;
            leaves = subst (λ k. (item_at items k).from.0 ≡ node) same leaves;
            between = λ j above below. absurd (omega arith);
          }
      | inr other ↦
          let rest = leaving_from-some_gap items node i gap (low + 1) (omega arith) (sym (leaving_from-skip items node low within other) ∙ found) in
          record {
            above = omega (arith, rest.above);
            within = rest.within;
            leaves = rest.leaves;
            between = λ j above below. elim (cases_eq j low) [
              | inl same ↦ rw same other
              | inr differs ↦ rest.between j (omega arith) below
            ];
          }
    ]

pub leaving_from-some : (items : List Item) (node low : ℕ) (i : ItemId) → leaving_from items node low ≡ Some i → IsFirstLeaving items node low i.0
leaving_from-some items node low i found =
    elim (cases_lt low (length items)) [
      | inl below ↦ leaving_from-some_gap items node i (length items - low) low (omega arith) found
      | inr past ↦ absurd (none-some _ (sym (leaving_from-end items node low past) ∙ found))
    ]

leaving_from-none_gap : (items : List Item) (node gap low : ℕ) → low + gap ≡ length items → leaving_from items node low ≡ None
    → (j : ℕ) → low ≤ j → j < length items → (item_at items j).from.0 ≢ node
leaving_from-none_gap items node zero low size none = λ j above below. absurd (omega arith)
leaving_from-none_gap items node (suc gap) low size none =
    let within : low < length items = omega arith in
    elim (cases_eq (item_at items low).from.0 node) [
      | inl leaves ↦ absurd (none-some _ (sym none ∙ leaving_from-here items node low within leaves))
      | inr other ↦ λ j above below. elim (cases_eq j low) [
        | inl same ↦ rw same other
        | inr differs ↦ leaving_from-none_gap items node gap (low + 1) (omega arith) (sym (leaving_from-skip items node low within other) ∙ none) j (omega arith) below
      ]
    ]

-- where no item is found, none from there on leaves the node
pub leaving_from-none : (items : List Item) (node low : ℕ) → leaving_from items node low ≡ None
    → (j : ℕ) → low ≤ j → j < length items → (item_at items j).from.0 ≢ node
leaving_from-none items node low none j above below = leaving_from-none_gap items node (length items - low) low (omega arith) none j above below
