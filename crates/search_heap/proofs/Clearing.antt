-- Entries that are taken away.
use Rattle.std.proofs.Common.{◌≡◌, ℕ, ◌+◌, ◌<◌, List, length, set, Option, Some, None, arith, ap, sym, ◌∙◌, inl, inr, get_or-set_same, get_or-set_other}
use Rattle.std.proofs.lemmas.Bool.{cases_eq}
use Rattle.search_heap.specs.Entries.{entry_at}
use Rattle.search_heap.specs.Clearing.{AreCleared}
use Rattle.search_heap.specs.declared.entries.Entry.{Entry}

none_some : {A : Type 0} (o : Option A) (x : A) → o ≡ None → o ≡ Some x → ⊥
none_some o x none some = cc

pub AreCleared-none : (es : List (Option Entry)) (node_of : ℕ → ℕ) → AreCleared es es node_of 0
AreCleared-none es node_of = record { each = λ v e is. (is, λ k below. absurd (omega arith)) }

pub AreCleared-more : (old es : List (Option Entry)) (node_of : ℕ → ℕ) (k w : ℕ) → w < length es → node_of k ≡ w → AreCleared old es node_of k → AreCleared old (set es w None) node_of (k + 1)
AreCleared-more old es node_of k w there is so_far = record {
  each = λ v e some. elim (cases_eq v w) [
    | inl same ↦ absurd (none_some (entry_at (set es w None) v) e (ap (entry_at (set es w None)) same ∙ get_or-set_same es w None None there) some)
    | inr other ↦
        let one = so_far.each v e (sym (get_or-set_other es w v None None other) ∙ some) in
        (one.0, λ j below. elim (cases_eq j k) [ inl here ↦ λ x. other (sym x ∙ ap node_of here ∙ is) | inr before ↦ one.1 j (omega arith) ])
  ];
}
