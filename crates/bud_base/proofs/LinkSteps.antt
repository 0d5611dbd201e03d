-- Links built from the last item to the first.
use Rattle.std.proofs.Common.{◌≡◌, ℕ, ◌+◌, ◌<◌, ◌≤◌, List, length, get_or, set, Option, Some, None, arith, sym, ◌∙◌, inl, inr, get_or-set_same, get_or-set_other}
use Rattle.std.proofs.lemmas.Bool.{cases_eq}
use Rattle.std.proofs.Math.ListN.{length-set}
use Rattle.bud_base.specs.Paths.{item_at}
use Rattle.bud_base.specs.Leaving.{leaving_from}
use Rattle.bud_base.proofs.LeavingLemmas.{leaving_from-here, leaving_from-skip}
use Rattle.bud_base.specs.declared.ids.ItemId.{ItemId}
use Rattle.bud_base.specs.declared.problems.Item.{Item}

-- the items from number `low` on are linked
pub record AreLinksFrom (items : List Item) (low : ℕ) (heads tails : List (Option ItemId)) : Type 0 where
  pub first : (node : ℕ) → node < length heads → get_or heads node None ≡ leaving_from items node low
  pub next : (i : ℕ) → low ≤ i → i < length items → get_or tails i None ≡ leaving_from items (item_at items i).from.0 (i + 1)

-- one item is linked: it stands before the items of its node so far
pub AreLinksFrom-more : (items : List Item) (low node : ℕ) (heads tails : List (Option ItemId)) → low < length items → length items ≤ length tails → node < length heads
    → (item_at items low).from.0 ≡ node → AreLinksFrom items (low + 1) heads tails
    → AreLinksFrom items low (set heads node (Some (record { 0 = low }))) (set tails low (get_or heads node None))
AreLinksFrom-more items low node heads tails within room there leaves so_far = record {
  first = λ other below. elim (cases_eq other node) [
    | inl same ↦ rw (same, get_or-set_same heads node (Some (record { 0 = low })) None there) (sym (leaving_from-here items node low within leaves))
    | inr differs ↦ rw (get_or-set_other heads node other (Some (record { 0 = low })) None differs)
        (so_far.first other (omega (arith, length-set heads node (Some (record { 0 = low }))))
        ∙ sym (leaving_from-skip items other low within (λ e. differs (sym e ∙ leaves))))
  ];
  next = λ i from_low inside. elim (cases_eq i low) [
    | inl same ↦ rw (same, get_or-set_same tails low (get_or heads node None) None (omega arith), leaves) (so_far.first node there)
    | inr differs ↦ rw (get_or-set_other tails low i (get_or heads node None) None differs) (so_far.next i (omega arith) inside)
  ];
}
