-- The order in which nodes were taken.
use Rattle.std.proofs.Common.{◌≡◌, ◌≢◌, ℕ, ℤ, pos, ◌+◌, ◌<◌, ◌≤◌, ◌++◌, Bool, true, false, List, [], ◌∷◌, length, get_or, set, take, ◌<ℤ◌, Option, Some, None, zero, suc, cond, arith, refl, ap, sym, subst, ◌∙◌, inl, inr, get_or-set_same, get_or-set_other}
use Rattle.std.proofs.lemmas.Int.{ints}
use Rattle.std.proofs.lemmas.Bool.{cases_eq}
use Rattle.std.proofs.lemmas.List.{get_or_append_left, get_or_push, length_push, get_or-take, length-take-le, set-get_or}
use Rattle.bud_base.specs.declared.ids.NodeId.{NodeId}
use Rattle.search_heap.specs.Entries.{entry_at, free_count, waits_at, is_nearer, fresh, reached_by}
use Rattle.search_heap.specs.Searches.{node_at, AreInOrder, NoneWaits}
use Rattle.search_heap.specs.Offers.{AreOffered, IsFarther, IsTakenAt}
use Rattle.search_heap.specs.Clearing.{AreCleared}
use Rattle.search_heap.specs.Heaps.{near_at}
use Rattle.search_heap.specs.declared.entries.Entry.{Entry}
use Rattle.search_heap.specs.declared.entries.Near.{Near}

none_some : {A : Type 0} (o : Option A) (x : A) → o ≡ None → o ≡ Some x → ⊥
none_some o x none some = cc

some_inj : {A : Type 0} (x y : A) → Some x ≡ Some y → x ≡ y
some_inj x y e = cc

-- ---- counting
pub free_count-most : (es : List (Option Entry)) → free_count es ≤ length es
free_count-most [] = omega arith
free_count-most (None ∷ es) = omega (arith, free_count-most es)
free_count-most (Some e ∷ es) = omega (arith, free_count-most es)

pub free_count-first : (es : List (Option Entry)) (v : ℕ) (new : Entry) → v < length es → entry_at es v ≡ None → free_count (set es v (Some new)) + 1 ≡ free_count es
free_count-first [] v new there free = absurd (omega arith)
free_count-first (None ∷ es) zero new there free = omega arith
free_count-first (Some e ∷ es) zero new there free = absurd (cc)
free_count-first (None ∷ es) (suc v) new there free = omega (arith, free_count-first es v new (omega arith) free)
free_count-first (Some e ∷ es) (suc v) new there free = free_count-first es v new (omega arith) free

pub free_count-again : (es : List (Option Entry)) (v : ℕ) (old new : Entry) → entry_at es v ≡ Some old → free_count (set es v (Some new)) ≡ free_count es
free_count-again [] v old new is = refl
free_count-again (None ∷ es) zero old new is = absurd (cc)
free_count-again (Some e ∷ es) zero old new is = refl
free_count-again (None ∷ es) (suc v) old new is = omega (arith, free_count-again es v old new is)
free_count-again (Some e ∷ es) (suc v) old new is = free_count-again es v old new is

pub free_count-none : (es : List (Option Entry)) → ((v : ℕ) → entry_at es v ≡ None) → free_count es ≡ length es
free_count-none [] none = refl
free_count-none (None ∷ es) none = omega (arith, free_count-none es (λ v. none (suc v)))
free_count-none (Some e ∷ es) none = absurd (none_some (Some e) e (none 0) refl)

-- ---- entries that wait change
pub AreInOrder-waiting : (es : List (Option Entry)) (taken : List NodeId) (v : ℕ) (new : Entry) → v < length es → new.place ≡ None → ((e : Entry) (k : ℕ) → entry_at es v ≡ Some e → e.place ≢ Some k) → AreInOrder es taken
    → AreInOrder (set es v (Some new)) taken
AreInOrder-waiting es taken v new there waiting not_taken ordered = record {
  nodes = λ k inside.
      let one = ordered.nodes k inside in
      let differs : node_at taken k ≢ v = λ e. not_taken one.entry k (ap (entry_at es) (sym e) ∙ one.is) one.place in
      record { entry = one.entry; is = get_or-set_other es v (node_at taken k) (Some new) None differs ∙ one.is; place = one.place };
  places = λ w k e is place. elim (cases_eq w v) [
    | inl same ↦
        let here : entry_at (set es v (Some new)) w ≡ Some new = ap (entry_at (set es v (Some new))) same ∙ get_or-set_same es v (Some new) None there in
        let e_new : e ≡ new = some_inj e new (sym is ∙ here) in
        absurd (none_some e.place k (ap (λ (x : Entry). x.place) e_new ∙ waiting) place)
    | inr other ↦ ordered.places w k e (sym (get_or-set_other es v w (Some new) None other) ∙ is) place
  ];
}

-- ---- one node more is taken
pub AreInOrder-taken : (es : List (Option Entry)) (taken : List NodeId) (node : NodeId) (old new : Entry) → node.0 < length es → entry_at es node.0 ≡ Some old → old.place ≡ None → new.place ≡ Some (length taken) → AreInOrder es taken
    → AreInOrder (set es node.0 (Some new)) (taken ++ node ∷ [])
AreInOrder-taken es taken node old new there is_old waiting is_new ordered =
    let v : ℕ = node.0 in
    let size : length (taken ++ node ∷ []) ≡ length taken + 1 = length_push taken node in
    let here : entry_at (set es v (Some new)) v ≡ Some new = get_or-set_same es v (Some new) None there in
    let last : node_at (taken ++ node ∷ []) (length taken) ≡ v = ap (λ (n : NodeId). n.0) (get_or_push taken node (record { 0 = 0 }) (length taken) refl) in
    let before : (k : ℕ) → k < length taken → node_at (taken ++ node ∷ []) k ≡ node_at taken k = λ k inside. ap (λ (n : NodeId). n.0) (get_or_append_left taken (node ∷ []) (record { 0 = 0 }) k inside) in
    record {
      nodes = λ k inside. elim (cases_eq k (length taken)) [
        | inl same ↦
            let at_v : node_at (taken ++ node ∷ []) k ≡ v = ap (node_at (taken ++ node ∷ [])) same ∙ last in
            record { entry = new; is = ap (entry_at (set es v (Some new))) at_v ∙ here; place = is_new ∙ ap Some (sym same) }
        | inr other ↦
            let within : k < length taken = omega (arith, size) in
            let one = ordered.nodes k within in
            let differs : node_at taken k ≢ v = λ e.
            let same : one.entry ≡ old = some_inj one.entry old (sym one.is ∙ ap (entry_at es) e ∙ is_old) in
            none_some old.place k waiting (ap (λ (x : Entry). x.place) (sym same) ∙ one.place) in
            record {
              entry = one.entry;
              is = ap (entry_at (set es v (Some new))) (before k within) ∙ get_or-set_other es v (node_at taken k) (Some new) None differs ∙ one.is;
              place = one.place;
            }
      ];
      places = λ w k e is place. elim (cases_eq w v) [
        | inl same ↦
            let at_w : entry_at (set es v (Some new)) w ≡ Some new = ap (entry_at (set es v (Some new))) same ∙ here in
            let e_new : e ≡ new = some_inj e new (sym is ∙ at_w) in
            let is_k : k ≡ length taken = some_inj k (length taken) (sym place ∙ ap (λ (x : Entry). x.place) e_new ∙ is_new) in
            (omega (arith, size), ap (node_at (taken ++ node ∷ [])) is_k ∙ last ∙ sym same)
        | inr other ↦
            let one = ordered.places w k e (sym (get_or-set_other es v w (Some new) None other) ∙ is) place in
            (omega (arith, size, one.0), before k one.0 ∙ one.1)
      ];
    }

-- ---- nothing is known of no entries
pub AreInOrder-none : (es : List (Option Entry)) → ((v : ℕ) → entry_at es v ≡ None) → AreInOrder es []
AreInOrder-none es none = record {
  nodes = λ k inside. absurd (omega arith);
  places = λ v k e is place. absurd (none_some (entry_at es v) e (none v) is);
}

by_place : {P : Type 0} (o : Option ℕ) → (o ≡ None → P) → ((k : ℕ) → o ≡ Some k → P) → P
by_place None none some = none refl
by_place (Some k) none some = some k refl

pub NoneWaits-empty : (es : List (Option Entry)) (offers : List Near) (places : List ℕ) → AreOffered es offers places 0 → NoneWaits es
NoneWaits-empty es offers places offered = record {
  each = λ v e is. by_place e.place (λ waits. absurd (omega (arith, (offered.nodes v e is waits).below))) (λ k place. (k, place));
}

-- ---- what stays where a node is reached
pub reached_by-kept : (e : Entry) (distance : ℤ) (by : Option ℕ) → is_nearer distance (waits_at e.place) e.distance ≡ false → reached_by (Some e) distance by ≡ e
reached_by-kept e distance by not_nearer = rw not_nearer refl

pub reached_by-nearer : (e : Entry) (distance : ℤ) (by : Option ℕ) → is_nearer distance (waits_at e.place) e.distance ≡ true → reached_by (Some e) distance by ≡ fresh distance by
reached_by-nearer e distance by nearer = rw nearer refl

pub nearer-waits : (o : Option ℕ) (distance before : ℤ) → is_nearer distance (waits_at o) before ≡ true → o ≡ None
nearer-waits None distance before nearer = refl
nearer-waits (Some k) distance before nearer = absurd (cc)

pub nearer-less : (o : Option ℕ) (distance before : ℤ) → is_nearer distance (waits_at o) before ≡ true → distance <ℤ before
nearer-less None distance before nearer = grind (arith, ints)
nearer-less (Some k) distance before nearer = absurd (cc)

pub IsFarther-nearer : (es : List (Option Entry)) (v : ℕ) (e : Entry) (distance : ℤ) → entry_at es v ≡ Some e → is_nearer distance (waits_at e.place) e.distance ≡ true → IsFarther es v distance
IsFarther-nearer es v e distance is nearer = record {
  entry = e;
  is = is;
  waiting = nearer-waits e.place distance e.distance nearer;
  farther = nearer-less e.place distance e.distance nearer;
}

-- a node that was reached, and how many have no entry then
pub free_count-some : (es : List (Option Entry)) (v : ℕ) → v < length es → entry_at es v ≡ None → 0 < free_count es
free_count-some es v there free = omega (arith, free_count-first es v (fresh (pos 0) None) there free)

by_entry : {P : Type 0} (o : Option Entry) → (o ≡ None → P) → ((e : Entry) → o ≡ Some e → P) → P
by_entry None none some = none refl
by_entry (Some e) none some = some e refl

-- ---- after both were cleared nothing is left
pub none-cleared : (old mid new : List (Option Entry)) (offers : List Near) (places : List ℕ) (order : List NodeId) (waiting taken : ℕ) → AreOffered old offers places waiting → AreInOrder old (take taken order) → taken ≤ length order
    → AreCleared old mid (λ k. (near_at offers k).node.0) waiting → AreCleared mid new (node_at order) taken → (v : ℕ) → entry_at new v ≡ None
none-cleared old mid new offers places order waiting taken offered ordered few first second v = by_entry (entry_at new v) (λ none. none) (λ e some.
    let two = second.each v e some in
    let one = first.each v e two.0 in
    by_place e.place
    (λ waits. let has = offered.nodes v e one.0 waits in absurd (one.1 (get_or places v 0) has.below has.node))
    (λ k place.
    let at_k = ordered.places v k e one.0 place in
    let below : k < taken = omega (arith, at_k.0, length-take-le taken order few) in
    absurd (two.1 k below (ap (λ (n : NodeId). n.0) (sym (get_or-take taken order k _ below)) ∙ at_k.1))))

-- ---- a node is reached
kept_or_new : (es : List (Option Entry)) (taken : List NodeId) (v : ℕ) (e new : Entry) (b : Bool) → v < length es → entry_at es v ≡ Some e → new.place ≡ None → (b ≡ true → e.place ≡ None) → AreInOrder es taken
    → AreInOrder (set es v (Some (cond b new e))) taken
kept_or_new es taken v e new true there is waiting waits ordered =
    AreInOrder-waiting es taken v new there waiting
    (λ f k some place. none_some e.place k (waits refl) (ap (λ (x : Entry). x.place) (some_inj e f (sym is ∙ some)) ∙ place)) ordered
kept_or_new es taken v e new false there is waiting waits ordered =
    let P : List (Option Entry) → Type 0 = λ l. AreInOrder l taken in
    let same : set es v (Some e) ≡ es = ap (set es v) (sym is) ∙ set-get_or es v None in
    subst P (sym same) ordered

pub AreInOrder-reached : (es : List (Option Entry)) (taken : List NodeId) (v : ℕ) (distance : ℤ) (by : Option ℕ) → v < length es → AreInOrder es taken
    → AreInOrder (set es v (Some (reached_by (entry_at es v) distance by))) taken
AreInOrder-reached es taken v distance by there ordered =
    let P : Option Entry → Type 0 = λ o. AreInOrder (set es v (Some (reached_by o distance by))) taken in
    by_entry (entry_at es v)
    (λ none. subst P (sym none) (AreInOrder-waiting es taken v (fresh distance by) there refl (λ e k some place. none_some (entry_at es v) e none some) ordered))
    (λ e some. subst P (sym some) (kept_or_new es taken v e (fresh distance by) (is_nearer distance (waits_at e.place) e.distance) there some refl
    (nearer-waits e.place distance e.distance) ordered))

-- an entry that is as near, or that was taken, stays
pub reached-kept : (es : List (Option Entry)) (v : ℕ) (e : Entry) (distance : ℤ) (by : Option ℕ) → entry_at es v ≡ Some e → is_nearer distance (waits_at e.place) e.distance ≡ false
    → es ≡ set es v (Some (reached_by (entry_at es v) distance by))
reached-kept es v e distance by is not_nearer =
    let P : Option Entry → Type 0 = λ o. es ≡ set es v (Some (reached_by o distance by)) in
    let same : es ≡ set es v (Some e) = sym (ap (set es v) (sym is) ∙ set-get_or es v None) in
    subst P (sym is) (same ∙ ap (λ (x : Entry). set es v (Some x)) (sym (reached_by-kept e distance by not_nearer)))

-- a nearer one replaces it
pub reached-nearer : (es new : List (Option Entry)) (v : ℕ) (e : Entry) (distance : ℤ) (by : Option ℕ) → entry_at es v ≡ Some e → is_nearer distance (waits_at e.place) e.distance ≡ true
    → new ≡ set es v (Some (fresh distance by)) → new ≡ set es v (Some (reached_by (entry_at es v) distance by))
reached-nearer es new v e distance by is nearer made =
    let P : Option Entry → Type 0 = λ o. new ≡ set es v (Some (reached_by o distance by)) in
    subst P (sym is) (made ∙ ap (λ (x : Entry). set es v (Some x)) (sym (reached_by-nearer e distance by nearer)))

pub reached-first : (es new : List (Option Entry)) (v : ℕ) (distance : ℤ) (by : Option ℕ) → entry_at es v ≡ None → new ≡ set es v (Some (fresh distance by))
    → new ≡ set es v (Some (reached_by (entry_at es v) distance by))
reached-first es new v distance by is made =
    let P : Option Entry → Type 0 = λ o. new ≡ set es v (Some (reached_by o distance by)) in
    subst P (sym is) made

-- ---- the nearest is taken
pub AreInOrder-at : (es after : List (Option Entry)) (taken : List NodeId) (near : Near) → IsTakenAt es after (length taken) near → near.node.0 < length es → AreInOrder es taken → AreInOrder after (taken ++ near.node ∷ [])
AreInOrder-at es after taken near at_near there ordered =
    let P : List (Option Entry) → Type 0 = λ l. AreInOrder l (taken ++ near.node ∷ []) in
    let new : Entry = record { distance = at_near.entry.distance; by = at_near.entry.by; place = Some (length taken) } in
    subst P (sym at_near.taken) (AreInOrder-taken es taken near.node at_near.entry new there at_near.is at_near.waiting refl ordered)

pub free_count-taken : (es after : List (Option Entry)) (place : ℕ) (near : Near) → IsTakenAt es after place near → free_count after ≡ free_count es
free_count-taken es after place near at_near = ap free_count at_near.taken ∙ free_count-again es near.node.0 at_near.entry _ at_near.is
