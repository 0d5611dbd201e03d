-- Where a search begins.
use Rattle.std.proofs.Common.{◌≡◌, ℕ, pos, ◌<ℤ◌, ◌+◌, ◌<◌, List, length, set, Option, Some, None, arith, refl, ap, sym, subst, ◌∙◌, inl, inr, get_or-set_same, get_or-set_other}
use Rattle.std.proofs.lemmas.Int.{ints}
use Rattle.std.proofs.lemmas.Bool.{cases_eq}
use Rattle.std.proofs.Math.ListN.{length-set}
use Rattle.residual.specs.Networks.{Network, excess_at}
use Rattle.search_heap.specs.Entries.{fresh, reached_by}
use Rattle.search_heap.specs.Searches.{Searched, IsEmptied}
use Rattle.search_heap.specs.declared.entries.Entry.{Entry as Found}
use Rattle.flow_solver.specs.Entries.{entry_at}
use Rattle.flow_solver.specs.Searches.{IsSeeded, IsSearching}
use Rattle.flow_solver.specs.Spreading.{found_at, taken_of, entries_of, HasReason, IsSpread, Every}
use Rattle.flow_solver.proofs.Founds.{entry-of, length-entries}

none_some : {A : Type 0} (o : Option A) (x : A) → o ≡ None → o ≡ Some x → ⊥
none_some o x none some = cc

some_inj : {A : Type 0} (x y : A) → Some x ≡ Some y → x ≡ y
some_inj x y e = cc

abbrev pub seed : Found
seed = fresh (pos 0) None

-- the search is emptied, and one node is reached
pub IsSeeded-reached : (old mid new : Searched) (w : ℕ) → w < length old.entries → IsEmptied old mid → new ≡ record mid { entries = set mid.entries w (Some (reached_by (found_at mid.entries w) (pos 0) None)) } → IsSeeded new w
IsSeeded-reached old mid new w there emptied is =
    let made : new.entries ≡ set mid.entries w (Some seed) = ap (λ (s : Searched). s.entries) is ∙ ap (λ o. set mid.entries w (Some (reached_by o (pos 0) None))) (emptied.none w) in
    record {
      here = ap (λ l. found_at l w) made ∙ get_or-set_same mid.entries w (Some seed) None (omega (arith, there, emptied.size));
      others = λ v other. ap (λ l. found_at l v) made ∙ get_or-set_other mid.entries w v (Some seed) None other ∙ emptied.none v;
      taken = ap (λ (s : Searched). s.taken) is ∙ emptied.taken;
    }

pub room-reached : (old mid new : Searched) (w : ℕ) → IsEmptied old mid → new ≡ record mid { entries = set mid.entries w (Some (reached_by (found_at mid.entries w) (pos 0) None)) } → length new.entries ≡ length old.entries
room-reached old mid new w emptied is = ap (λ (s : Searched). length s.entries) is ∙ length-set mid.entries w _ ∙ emptied.size

-- no node is taken
free-seeded : (front : Searched) (w v : ℕ) → IsSeeded front w → entry_at (entries_of front.entries) v ≡ None
free-seeded front w v seeded = entry-of front.entries v ∙ elim (cases_eq v w) [ inl same ↦ ap taken_of (ap (found_at front.entries) same ∙ seeded.here) | inr other ↦ ap taken_of (seeded.others v other) ]

IsSpread-seeded : (net : Network) (front : Searched) (w : ℕ) → IsSeeded front w → length front.entries ≡ net.nodes + 1 → w < net.nodes + 1 → pos 0 <ℤ excess_at net w
    → IsSpread net (entries_of front.entries) front.entries (pos 0) 0 Every
IsSpread-seeded net front w seeded size there some =
    let found : List (Option Found) = front.entries in
    let only : (v : ℕ) (f : Found) → found_at found v ≡ Some f → (v ≡ w) × (f ≡ seed) = λ v f told. elim (cases_eq v w) [
      | inl same ↦ (same, some_inj f seed (sym told ∙ ap (found_at found) same ∙ seeded.here))
      | inr other ↦ absurd (none_some (found_at found v) f (seeded.others v other) told)
    ] in
    record {
      size = length-entries found ∙ size;
      found_size = size;
      same = entry-of found;
      reasons = λ v f told.
          let it = only v f told in
          let P : Found → Type 0 = λ x. HasReason net (entries_of found) v x x.by in
          let E : ℕ → Type 0 = λ x. pos 0 <ℤ excess_at net x in
          subst P (sym it.1) (refl, subst E (sym it.0) some);
      least = λ v f told. omega (arith, ints, ap (λ (x : Found). x.distance) (only v f told).1);
      near = λ v j f told place. absurd (none_some f.place j (ap (λ (x : Found). x.place) (only v f told).1) place);
      few = λ v j f told place. absurd (none_some f.place j (ap (λ (x : Found). x.place) (only v f told).1) place);
      far = λ v f told waits. omega (arith, ints, ap (λ (x : Found). x.distance) (only v f told).1);
      covered = λ key e is_key looked room from. absurd (none_some _ e (free-seeded front w _ seeded) from);
      begun = record { node = w; below = there; entry = seed; is = seeded.here; distance = refl; excess = some };
    }

pub IsSearching-seeded : (net : Network) (front : Searched) (w : ℕ) → IsSeeded front w → length front.entries ≡ net.nodes + 1 → w < net.nodes + 1 → pos 0 <ℤ excess_at net w
    → IsSearching net (entries_of front.entries) front
IsSearching-seeded net front w seeded size there some =
    let P : ℕ → Type 0 = λ k. IsSpread net (entries_of front.entries) front.entries (pos 0) k Every in
    record {
      last = pos 0;
      spread = subst P (sym (ap length seeded.taken)) (IsSpread-seeded net front w seeded size there some);
      none = record { each = λ v e is. absurd (none_some (entry_at (entries_of front.entries) v) e (free-seeded front w v seeded) is) };
    }
