-- Searches while nodes are found and taken.
use Rattle.std.proofs.Common.{◌≡◌, ◌≢◌, ℕ, ℤ, pos, ◌+ℤ◌, ◌≤ℤ◌, ◌<ℤ◌, ◌+◌, ◌*◌, ◌<◌, ◌⊎◌, List, length, get_or, set, Option, Some, None, arith, refl, ap, sym, subst, ◌∙◌, inl, inr, cond, Bool, true, false, get_or-set_same, get_or-set_other}
use Rattle.std.specs.Prelude.{int_lt}
use Rattle.std.proofs.lemmas.Int.{ints}
use Rattle.std.proofs.lemmas.Bool.{cases_eq}
use Rattle.std.proofs.lemmas.List.{set-get_or}
use Rattle.std.proofs.Math.ListN.{length-set}
use Rattle.residual.specs.Arcs.{reduced_cost}
use Rattle.residual.specs.Leaving.{leaving}
use Rattle.residual.specs.Networks.{Network, IsKey, residual, AreReduced}
use Rattle.residual.proofs.Leaving.{leaving-is, leaving-each}
use Rattle.search_heap.specs.Entries.{waits_at, is_nearer, fresh, reached_by}
use Rattle.search_heap.specs.Offers.{IsTakenAt}
use Rattle.search_heap.proofs.Offering.{entry-within}
use Rattle.search_heap.proofs.Ordering.{nearer-waits, nearer-less}
use Rattle.search_heap.specs.declared.entries.Entry.{Entry as Found}
use Rattle.search_heap.specs.declared.entries.Near.{Near}
use Rattle.flow_solver.specs.Entries.{entry_at, label_of, label_at, IsLabelling, HasCauseBy}
use Rattle.flow_solver.specs.Searches.{AreTaken}
use Rattle.flow_solver.specs.Spreading.{found_at, taken_at, taken_of, IsFoundOver, HasReason, IsFoundWithin, IsSpread, Every, IsScanned, IsScanning, looked_along}
use Rattle.flow_solver.proofs.Ways.{from_of-residual}
use Rattle.flow_solver.specs.declared.entries.Entry.{Entry}

none_some : {A : Type 0} (o : Option A) (x : A) → o ≡ None → o ≡ Some x → ⊥
none_some o x none some = cc

some_inj : {A : Type 0} (x y : A) → Some x ≡ Some y → x ≡ y
some_inj x y e = cc

by_option : {A : Type 0} {P : Type 0} (o : Option A) → (o ≡ None → P) → ((x : A) → o ≡ Some x → P) → P
by_option None none some = none refl
by_option (Some x) none some = some x refl

-- ---- what was found of a node that is taken
abbrev pub as_entry : Found → ℕ → Entry
as_entry f k = record { distance = f.distance; by = f.by; place = k }

taken_of-waiting : (o : Option Found) (f : Found) → o ≡ Some f → f.place ≡ None → taken_of o ≡ None
taken_of-waiting o f is waits = ap taken_of is ∙ ap (taken_at f) waits

pub taken_of-taken : (o : Option Found) (f : Found) (k : ℕ) → o ≡ Some f → f.place ≡ Some k → taken_of o ≡ Some (as_entry f k)
taken_of-taken o f k is place = ap taken_of is ∙ ap (taken_at f) place

-- the entry of a node is what was found of it
pub record IsFoundAs (o : Option Found) (e : Entry) : Type 0 where
  pub found : Found
  pub is : o ≡ Some found
  pub place : found.place ≡ Some e.place
  pub distance : found.distance ≡ e.distance
  pub by : found.by ≡ e.by

found_as : (o : Option Found) (f : Found) (p : Option ℕ) (e : Entry) → o ≡ Some f → f.place ≡ p → taken_at f p ≡ Some e → IsFoundAs o e
found_as o f None e is place told = absurd (none_some (taken_at f None) e refl told)
found_as o f (Some k) e is place told =
    let same : as_entry f k ≡ e = some_inj (as_entry f k) e told in
    record {
      found = f;
      is = is;
      place = place ∙ ap (λ (x : Entry). Some x.place) same;
      distance = ap (λ (x : Entry). x.distance) same;
      by = ap (λ (x : Entry). x.by) same;
    }

pub taken_of-found : (o : Option Found) (e : Entry) → taken_of o ≡ Some e → IsFoundAs o e
taken_of-found o e told = by_option o (λ none. absurd (none_some (taken_of o) e (ap taken_of none) told)) (λ f is. found_as o f f.place e is refl (sym (ap taken_of is) ∙ told))

-- ---- labels
label-most : (net : Network) (entries : List (Option Entry)) (found : List (Option Found)) (last : ℤ) (count v : ℕ) (A : ℕ → Type 0) → IsSpread net entries found last count A → label_at entries last v ≤ℤ last
label-most net entries found last count v A spread = by_option (entry_at entries v) (λ free. omega (arith, ints, ap (label_of last) free)) (λ e is.
    let one = taken_of-found (found_at found v) e (sym (spread.same v) ∙ is) in
    omega (arith, ints, ap (label_of last) is, one.distance, spread.near v e.place one.found one.is one.place))

label-found : (net : Network) (entries : List (Option Entry)) (found : List (Option Found)) (last : ℤ) (count v : ℕ) (f : Found) (A : ℕ → Type 0) → IsSpread net entries found last count A → found_at found v ≡ Some f
    → label_at entries last v ≤ℤ f.distance
label-found net entries found last count v f A spread is = by_option f.place
    (λ waits. omega (arith, ints, ap (label_of last) (spread.same v ∙ taken_of-waiting (found_at found v) f is waits), spread.far v f is waits))
    (λ k place. omega (arith, ints, ap (label_of last) (spread.same v ∙ taken_of-taken (found_at found v) f k is place)))

-- but for the node taken last, each arc from a taken node was looked at: distances are a labelling
pub IsLabelling-spread : (net : Network) (entries : List (Option Entry)) (found : List (Option Found)) (last : ℤ) (count t : ℕ) → AreReduced net net.potentials
    → IsSpread net entries found last count (λ key. (residual net key).from.0 ≢ t) → label_at entries last t ≡ last → IsLabelling net (label_at entries last)
IsLabelling-spread net entries found last count t reduced spread top = record {
  each = λ key is_key room.
      let u : ℕ = (residual net key).from.0 in
      let w : ℕ = (residual net key).to.0 in
      let cost = reduced key is_key room in
      let most = label-most net entries found last count w (λ k. (residual net k).from.0 ≢ t) spread in
      by_option (entry_at entries u)
      (λ free. omega (arith, ints, cost, most, ap (label_of last) free))
      (λ e is. elim (cases_eq u t) [
        | inl same ↦ omega (arith, ints, cost, most, ap (label_at entries last) same, top)
        | inr other ↦
            let to = spread.covered key e is_key other room is in
            omega (arith, ints, label-found net entries found last count w to.entry (λ k. (residual net k).from.0 ≢ t) spread to.is, to.within, ap (label_of last) is)
      ]);
}

-- ---- what a search knows of the nodes that it took
cause_of : (net : Network) (entries : List (Option Entry)) (v : ℕ) (f : Found) (e : Entry) (by : Option ℕ) → HasReason net entries v f by → f.distance ≡ e.distance → f.place ≡ Some e.place → HasCauseBy net entries v e by
cause_of net entries v f e None reason same place = (sym same ∙ reason.0, reason.1)
cause_of net entries v f e (Some key) reason same place = record {
  is_key = reason.is_key;
  to = reason.to;
  room = reason.room;
  before = reason.before;
  from = reason.from;
  earlier = reason.earlier e.place place;
  distance = sym same ∙ reason.distance;
}

pub AreTaken-spread : (net : Network) (entries : List (Option Entry)) (found : List (Option Found)) (last : ℤ) (count t : ℕ) (top : Entry) → AreReduced net net.potentials
    → IsSpread net entries found last count (λ key. (residual net key).from.0 ≢ t) → entry_at entries t ≡ Some top → top.distance ≡ last → t < length entries → AreTaken net entries last count
AreTaken-spread net entries found last count t top reduced spread is_top top_far there =
    let label_top : label_at entries last t ≡ last = ap (label_of last) is_top ∙ top_far in
    let at_top = taken_of-found (found_at found t) top (sym (spread.same t) ∙ is_top) in
    let last_least : pos 0 ≤ℤ last = omega (arith, ints, spread.least t at_top.found at_top.is, at_top.distance, top_far) in
    let begun = spread.begun in
    let seed_label : label_at entries last begun.node ≡ pos 0 = by_option begun.entry.place
    (λ waits. omega (arith, ints, ap (label_of last) (spread.same begun.node ∙ taken_of-waiting (found_at found begun.node) begun.entry begun.is waits), spread.far begun.node begun.entry begun.is waits, begun.distance, last_least))
    (λ k place. ap (label_of last) (spread.same begun.node ∙ taken_of-taken (found_at found begun.node) begun.entry k begun.is place) ∙ begun.distance) in
    record {
      size = spread.size;
      labelling = IsLabelling-spread net entries found last count t reduced spread label_top;
      each = λ v e is.
          let one = taken_of-found (found_at found v) e (sym (spread.same v) ∙ is) in
          let P : Option ℕ → Type 0 = λ o. HasCauseBy net entries v e o in
          record {
            cause = subst P one.by (cause_of net entries v one.found e one.found.by (spread.reasons v one.found one.is) one.distance one.place);
            least = omega (arith, ints, spread.least v one.found one.is, one.distance);
            most = omega (arith, ints, spread.near v e.place one.found one.is one.place, one.distance);
            place = spread.few v e.place one.found one.is one.place;
          };
      attained = (t, there, label_top);
      begun = (begun.node, omega (arith, begun.below, spread.size), seed_label, begun.excess);
    }

-- ---- fewer or more arcs that were looked at
pub IsSpread-weaker : (net : Network) (entries : List (Option Entry)) (found : List (Option Found)) (last : ℤ) (count : ℕ) (A B : ℕ → Type 0) → ((key : ℕ) → IsKey net key → B key → A key)
    → IsSpread net entries found last count A → IsSpread net entries found last count B
IsSpread-weaker net entries found last count A B weaker spread = record {
  size = spread.size;
  found_size = spread.found_size;
  same = spread.same;
  reasons = spread.reasons;
  least = spread.least;
  near = spread.near;
  few = spread.few;
  far = spread.far;
  covered = λ key e is_key looked room from. spread.covered key e is_key (weaker key is_key looked) room from;
  begun = spread.begun;
}

-- ---- the nearest is taken
reason_kept : (net : Network) (entries after : List (Option Entry)) (v : ℕ) (f g : Found) (by : Option ℕ) → HasReason net entries v f by → g.distance ≡ f.distance
    → ((u : ℕ) (b : Entry) → entry_at entries u ≡ Some b → entry_at after u ≡ Some b)
    → ((u : ℕ) (b : Entry) → entry_at entries u ≡ Some b → ((k : ℕ) → f.place ≡ Some k → b.place < k) → (k : ℕ) → g.place ≡ Some k → b.place < k) → HasReason net after v g by
reason_kept net entries after v f g None reason same kept earlier = (same ∙ reason.0, reason.1)
reason_kept net entries after v f g (Some key) reason same kept earlier = record {
  is_key = reason.is_key;
  to = reason.to;
  room = reason.room;
  before = reason.before;
  from = kept (residual net key).from.0 reason.before reason.from;
  earlier = earlier (residual net key).from.0 reason.before reason.from reason.earlier;
  distance = same ∙ reason.distance;
}

-- the entries and what was found, with the node taken
spread_taken : (net : Network) (entries : List (Option Entry)) (found : List (Option Found)) (last : ℤ) (count : ℕ) (near : Near) (f new : Found) → IsSpread net entries found last count Every
    → found_at found near.node.0 ≡ Some f → f.place ≡ None → f.distance ≡ near.distance → ((v : ℕ) (g : Found) → found_at found v ≡ Some g → g.place ≡ None → near.distance ≤ℤ g.distance)
    → new ≡ record { distance = f.distance; by = f.by; place = Some count }
    → IsSpread net (set entries near.node.0 (Some (as_entry f count))) (set found near.node.0 (Some new)) near.distance (count + 1) (λ key. (residual net key).from.0 ≢ near.node.0)
spread_taken net entries found last count near f new spread is waits distance nearest is_new =
    let w : ℕ = near.node.0 in
    let entries_now : List (Option Entry) = set entries w (Some (as_entry f count)) in
    let found_now : List (Option Found) = set found w (Some new) in
    let found_in : w < length found = entry-within found w f is in
    let entry_in : w < length entries = omega (arith, found_in, spread.found_size, spread.size) in
    let free : entry_at entries w ≡ None = spread.same w ∙ taken_of-waiting (found_at found w) f is waits in
    let found_here : found_at found_now w ≡ Some new = get_or-set_same found w (Some new) None found_in in
    let entry_here : entry_at entries_now w ≡ Some (as_entry f count) = get_or-set_same entries w (Some (as_entry f count)) None entry_in in
    let found_other : (v : ℕ) → v ≢ w → found_at found_now v ≡ found_at found v = λ v other. get_or-set_other found w v (Some new) None other in
    let entry_other : (v : ℕ) → v ≢ w → entry_at entries_now v ≡ entry_at entries v = λ v other. get_or-set_other entries w v (Some (as_entry f count)) None other in
    let new_far : new.distance ≡ near.distance = ap (λ (x : Found). x.distance) is_new ∙ distance in
    let new_by : new.by ≡ f.by = ap (λ (x : Found). x.by) is_new in
    let new_place : new.place ≡ Some count = ap (λ (x : Found). x.place) is_new in
    let is_it : (v : ℕ) (g : Found) → v ≡ w → found_at found_now v ≡ Some g → g ≡ new = λ v g same told. some_inj g new (sym told ∙ ap (found_at found_now) same ∙ found_here) in
    let was : (v : ℕ) (g : Found) → v ≢ w → found_at found_now v ≡ Some g → found_at found v ≡ Some g = λ v g other told. sym (found_other v other) ∙ told in
    let kept : (u : ℕ) (b : Entry) → entry_at entries u ≡ Some b → entry_at entries_now u ≡ Some b = λ u b told.
    entry_other u (λ e. none_some (entry_at entries w) b free (ap (entry_at entries) (sym e) ∙ told)) ∙ told in
    let farther : last ≤ℤ near.distance = omega (arith, ints, spread.far w f is waits, distance) in
    record {
      size = length-set entries w (Some (as_entry f count)) ∙ spread.size;
      found_size = length-set found w (Some new) ∙ spread.found_size;
      same = λ v. elim (cases_eq v w) [
        | inl same ↦ ap (entry_at entries_now) same ∙ entry_here ∙ sym (ap taken_of (ap (found_at found_now) same ∙ found_here ∙ ap Some is_new))
        | inr other ↦ entry_other v other ∙ spread.same v ∙ ap taken_of (sym (found_other v other))
      ];
      reasons = λ v g told. elim (cases_eq v w) [
        | inl same ↦
            let P : Found → Type 0 = λ x. HasReason net entries_now v x x.by in
            let Q : ℕ → Type 0 = λ x. HasReason net entries_now x new new.by in
            let R : Option ℕ → Type 0 = λ o. HasReason net entries_now w new o in
            subst P (sym (is_it v g same told)) (subst Q (sym same) (subst R (sym new_by)
            (reason_kept net entries entries_now w f new f.by (spread.reasons w f is) (new_far ∙ sym distance) kept (λ u b at_u old k place.
            let one = taken_of-found (found_at found u) b (sym (spread.same u) ∙ at_u) in
            let is_count : k ≡ count = some_inj k count (sym place ∙ new_place) in
            omega (arith, is_count, spread.few u b.place one.found one.is one.place)))))
        | inr other ↦ reason_kept net entries entries_now v g g g.by (spread.reasons v g (was v g other told)) refl kept (λ u b at_u old. old)
      ];
      least = λ v g told. elim (cases_eq v w) [
        | inl same ↦ omega (arith, ints, ap (λ (x : Found). x.distance) (is_it v g same told), new_far, distance, spread.least w f is)
        | inr other ↦ spread.least v g (was v g other told)
      ];
      near = λ v k g told place. elim (cases_eq v w) [
        | inl same ↦ omega (arith, ints, ap (λ (x : Found). x.distance) (is_it v g same told), new_far)
        | inr other ↦ omega (arith, ints, spread.near v k g (was v g other told) place, farther)
      ];
      few = λ v k g told place. elim (cases_eq v w) [
        | inl same ↦
            let is_count : k ≡ count = some_inj k count (sym place ∙ ap (λ (x : Found). x.place) (is_it v g same told) ∙ new_place) in
            omega arith
        | inr other ↦ omega (arith, spread.few v k g (was v g other told) place)
      ];
      far = λ v g told waiting. elim (cases_eq v w) [
        | inl same ↦ absurd (none_some g.place count waiting (ap (λ (x : Found). x.place) (is_it v g same told) ∙ new_place))
        | inr other ↦ nearest v g (was v g other told) waiting
      ];
      covered = λ key e is_key other_from room from.
          let t : ℕ = (residual net key).to.0 in
          let to = spread.covered key e is_key tt room (sym (entry_other (residual net key).from.0 other_from) ∙ from) in
          elim (cases_eq t w) [
            | inl same ↦
                let it : to.entry ≡ f = some_inj to.entry f (sym to.is ∙ ap (found_at found) same ∙ is) in
                record { entry = new; is = ap (found_at found_now) same ∙ found_here; within = omega (arith, ints, to.within, ap (λ (x : Found). x.distance) it, new_far, distance) }
            | inr other ↦ record { entry = to.entry; is = found_other t other ∙ to.is; within = to.within }
          ];
      begun = elim (cases_eq spread.begun.node w) [
        | inl same ↦
            let it : spread.begun.entry ≡ f = some_inj spread.begun.entry f (sym spread.begun.is ∙ ap (found_at found) same ∙ is) in
            record {
              node = spread.begun.node;
              below = spread.begun.below;
              entry = new;
              is = ap (found_at found_now) same ∙ found_here;
              distance = omega (arith, ints, new_far, distance, ap (λ (x : Found). x.distance) it, spread.begun.distance);
              excess = spread.begun.excess;
            }
        | inr other ↦ record {
          node = spread.begun.node;
          below = spread.begun.below;
          entry = spread.begun.entry;
          is = found_other spread.begun.node other ∙ spread.begun.is;
          distance = spread.begun.distance;
          excess = spread.begun.excess;
        }
      ];
    }

-- what is known once the nearest was taken
pub record IsTakenNext (net : Network) (entries after : List (Option Entry)) (found : List (Option Found)) (near : Near) (count : ℕ) : Type 0 where
  pub spread : IsSpread net after found near.distance (count + 1) (λ key. (residual net key).from.0 ≢ near.node.0)
  pub there : near.node.0 < length entries
  pub free : entry_at entries near.node.0 ≡ None
  pub entry : Entry
  pub made : after ≡ set entries near.node.0 (Some entry)
  pub distance : entry.distance ≡ near.distance

pub IsTakenNext-nearest : (net : Network) (entries after : List (Option Entry)) (found found_after : List (Option Found)) (last : ℤ) (count : ℕ) (near : Near) → IsSpread net entries found last count Every
    → IsTakenAt found found_after count near → after ≡ set entries near.node.0 (taken_of (found_at found_after near.node.0)) → IsTakenNext net entries after found_after near count
IsTakenNext-nearest net entries after found found_after last count near spread at_near is =
    let w : ℕ = near.node.0 in
    let f : Found = at_near.entry in
    let new : Found = record { distance = f.distance; by = f.by; place = Some count } in
    let found_in : w < length found = entry-within found w f at_near.is in
    let here : found_at found_after w ≡ Some new = ap (λ l. found_at l w) at_near.taken ∙ get_or-set_same found w (Some new) None found_in in
    let made : after ≡ set entries w (Some (as_entry f count)) = is ∙ ap (λ o. set entries w (taken_of o)) here in
    let whole = spread_taken net entries found last count near f new spread at_near.is at_near.waiting at_near.distance at_near.nearest refl in
    let P : List (Option Entry) → Type 0 = λ l. IsSpread net l found_after near.distance (count + 1) (λ key. (residual net key).from.0 ≢ w) in
    let Q : List (Option Found) → Type 0 = λ l. IsSpread net (set entries w (Some (as_entry f count))) l near.distance (count + 1) (λ key. (residual net key).from.0 ≢ w) in
    record {
      spread = subst P (sym made) (subst Q (sym at_near.taken) whole);
      there = omega (arith, found_in, spread.found_size, spread.size);
      free = spread.same w ∙ taken_of-waiting (found_at found w) f at_near.is at_near.waiting;
      entry = as_entry f count;
      made = made;
      distance = at_near.distance;
    }

-- ---- a look along an arc of the node taken last
-- either an entry that waits is new, or the entry that there was is as near or taken
record IsNewHere (o : Option Found) (distance : ℤ) : Type 0 where
  pub waits : (f : Found) → o ≡ Some f → f.place ≡ None
  pub nearer : (f : Found) → o ≡ Some f → distance ≤ℤ f.distance

record IsKeptHere (o : Option Found) (distance : ℤ) (kept : Found) : Type 0 where
  pub is : o ≡ Some kept
  pub near : kept.place ≡ None → kept.distance ≤ℤ distance

not_nearer-near : (p : Option ℕ) (distance before : ℤ) → is_nearer distance (waits_at p) before ≡ false → p ≡ None → before ≤ℤ distance
not_nearer-near None distance before test waits = grind (arith, ints)
not_nearer-near (Some k) distance before test waits = absurd (cc)

reached-some : (o : Option Found) (f : Found) (distance : ℤ) (by : Option ℕ) (b : Bool) → o ≡ Some f → is_nearer distance (waits_at f.place) f.distance ≡ b
    → ((reached_by o distance by ≡ fresh distance by) × IsNewHere o distance) ⊎ ((reached_by o distance by ≡ f) × IsKeptHere o distance f)
reached-some o f distance by true is test = inl (
  ap (λ x. reached_by x distance by) is ∙ ap (λ b. cond b (fresh distance by) f) test,
  record {
    waits = λ g told. let same : g ≡ f = some_inj g f (sym told ∙ is) in ap (λ (x : Found). x.place) same ∙ nearer-waits f.place distance f.distance test;
    nearer = λ g told. let same : g ≡ f = some_inj g f (sym told ∙ is) in omega (arith, ints, ap (λ (x : Found). x.distance) same, nearer-less f.place distance f.distance test);
  },
)
reached-some o f distance by false is test = inr (
  ap (λ x. reached_by x distance by) is ∙ ap (λ b. cond b (fresh distance by) f) test,
  record { is = is; near = not_nearer-near f.place distance f.distance test },
)

reached-either : (o : Option Found) (distance : ℤ) (by : Option ℕ)
    → ((reached_by o distance by ≡ fresh distance by) × IsNewHere o distance) ⊎ ((f : Found) × (reached_by o distance by ≡ f) × IsKeptHere o distance f)
reached-either o distance by = by_option o
    (λ none. inl (ap (λ x. reached_by x distance by) none, record { waits = λ f told. absurd (none_some o f none told); nearer = λ f told. absurd (none_some o f none told) }))
    (λ f is. elim (reached-some o f distance by (is_nearer distance (waits_at f.place) f.distance) is refl) [ inl new ↦ inl new | inr kept ↦ inr (f, kept.0, kept.1) ])

-- an arc over which its other node was found is covered
spread_covered : (net : Network) (entries : List (Option Entry)) (found : List (Option Found)) (last : ℤ) (count key : ℕ) (A B : ℕ → Type 0) (top : Entry) → ((k : ℕ) → B k → A k ⊎ (k ≡ key))
    → entry_at entries (residual net key).from.0 ≡ Some top → (pos 0 <ℤ (residual net key).room → IsFoundWithin found (residual net key).to.0 (top.distance +ℤ reduced_cost net.potentials (residual net key)))
    → IsSpread net entries found last count A → IsSpread net entries found last count B
spread_covered net entries found last count key A B top which from_top within spread = record {
  size = spread.size;
  found_size = spread.found_size;
  same = spread.same;
  reasons = spread.reasons;
  least = spread.least;
  near = spread.near;
  few = spread.few;
  far = spread.far;
  covered = λ k e is_key looked room from. elim (which k looked) [
    | inl before ↦ spread.covered k e is_key before room from
    | inr same ↦
        let W : ℕ → Type 0 = λ j. pos 0 <ℤ (residual net j).room → entry_at entries (residual net j).from.0 ≡ Some e → IsFoundWithin found (residual net j).to.0 (e.distance +ℤ reduced_cost net.potentials (residual net j)) in
        let here : W key = λ some at_key.
        let it : e ≡ top = some_inj e top (sym at_key ∙ from_top) in
        let E : Entry → Type 0 = λ x. IsFoundWithin found (residual net key).to.0 (x.distance +ℤ reduced_cost net.potentials (residual net key)) in
        subst E (sym it) (within some) in
        subst W (sym same) here room from
  ];
  begun = spread.begun;
}

-- a new entry that waits
spread_new : (net : Network) (entries : List (Option Entry)) (found : List (Option Found)) (last far : ℤ) (count key : ℕ) (A : ℕ → Type 0) (top : Entry) → IsKey net key → pos 0 <ℤ (residual net key).room
    → entry_at entries (residual net key).from.0 ≡ Some top → far ≡ top.distance +ℤ reduced_cost net.potentials (residual net key) → last ≤ℤ far → pos 0 ≤ℤ far → (residual net key).to.0 < net.nodes + 1
    → IsNewHere (found_at found (residual net key).to.0) far → IsSpread net entries found last count A → IsSpread net entries (set found (residual net key).to.0 (Some (fresh far (Some key)))) last count A
spread_new net entries found last far count key A top is_key room from_top is_far later positive to_in new spread =
    let t : ℕ = (residual net key).to.0 in
    let f : Found = fresh far (Some key) in
    let found_now : List (Option Found) = set found t (Some f) in
    let here : found_at found_now t ≡ Some f = get_or-set_same found t (Some f) None (omega (arith, to_in, spread.found_size)) in
    let elsewhere : (v : ℕ) → v ≢ t → found_at found_now v ≡ found_at found v = λ v other. get_or-set_other found t v (Some f) None other in
    let is_it : (v : ℕ) (g : Found) → v ≡ t → found_at found_now v ≡ Some g → g ≡ f = λ v g same told. some_inj g f (sym told ∙ ap (found_at found_now) same ∙ here) in
    let was : (v : ℕ) (g : Found) → v ≢ t → found_at found_now v ≡ Some g → found_at found v ≡ Some g = λ v g other told. sym (elsewhere v other) ∙ told in
    let untaken : taken_of (found_at found t) ≡ None = by_option (found_at found t) (λ none. ap taken_of none) (λ g told. taken_of-waiting (found_at found t) g told (new.waits g told)) in
    record {
      size = spread.size;
      found_size = length-set found t (Some f) ∙ spread.found_size;
      same = λ v. elim (cases_eq v t) [
        | inl same ↦ ap (entry_at entries) same ∙ spread.same t ∙ untaken ∙ sym (ap taken_of (ap (found_at found_now) same ∙ here))
        | inr other ↦ spread.same v ∙ ap taken_of (sym (elsewhere v other))
      ];
      reasons = λ v g told. elim (cases_eq v t) [
        | inl same ↦
            let P : Found → Type 0 = λ x. HasReason net entries v x x.by in
            let over : IsFoundOver net entries v f key = record {
              is_key = is_key;
              to = sym same;
              room = room;
              before = top;
              from = from_top;
              earlier = λ k place. absurd (none_some f.place k refl place);
              distance = is_far;
            } in
            subst P (sym (is_it v g same told)) over
        | inr other ↦ spread.reasons v g (was v g other told)
      ];
      least = λ v g told. elim (cases_eq v t) [ inl same ↦ omega (arith, ints, ap (λ (x : Found). x.distance) (is_it v g same told), positive) | inr other ↦ spread.least v g (was v g other told) ];
      near = λ v k g told place. elim (cases_eq v t) [
        | inl same ↦ absurd (none_some g.place k (ap (λ (x : Found). x.place) (is_it v g same told)) place)
        | inr other ↦ spread.near v k g (was v g other told) place
      ];
      few = λ v k g told place. elim (cases_eq v t) [
        | inl same ↦ absurd (none_some g.place k (ap (λ (x : Found). x.place) (is_it v g same told)) place)
        | inr other ↦ spread.few v k g (was v g other told) place
      ];
      far = λ v g told waiting. elim (cases_eq v t) [ inl same ↦ omega (arith, ints, ap (λ (x : Found). x.distance) (is_it v g same told), later) | inr other ↦ spread.far v g (was v g other told) waiting ];
      covered = λ k e is_k looked some from.
          let s : ℕ = (residual net k).to.0 in
          let to = spread.covered k e is_k looked some from in
          elim (cases_eq s t) [
            | inl same ↦ record { entry = f; is = ap (found_at found_now) same ∙ here; within = omega (arith, ints, new.nearer to.entry (ap (found_at found) (sym same) ∙ to.is), to.within) }
            | inr other ↦ record { entry = to.entry; is = elsewhere s other ∙ to.is; within = to.within }
          ];
      begun = elim (cases_eq spread.begun.node t) [
        | inl same ↦ record {
          node = spread.begun.node;
          below = spread.begun.below;
          entry = f;
          is = ap (found_at found_now) same ∙ here;
          distance = omega (arith, ints, new.nearer spread.begun.entry (ap (found_at found) (sym same) ∙ spread.begun.is), spread.begun.distance, positive);
          excess = spread.begun.excess;
        }
        | inr other ↦ record {
          node = spread.begun.node;
          below = spread.begun.below;
          entry = spread.begun.entry;
          is = elsewhere spread.begun.node other ∙ spread.begun.is;
          distance = spread.begun.distance;
          excess = spread.begun.excess;
        }
      ];
    }

-- what was found after a look, told whether the arc has room
abbrev pub looked_by : Network → ℤ → ℕ → List (Option Found) → ℤ → Bool → List (Option Found)
looked_by net distance key found far b = cond b (set found (residual net key).to.0 (Some (reached_by (found_at found (residual net key).to.0) far (Some key)))) found

room_of : (room : ℤ) → int_lt (pos 0) room ≡ true → pos 0 <ℤ room
room_of room test = grind (arith, ints)

no_room_of : (room : ℤ) → int_lt (pos 0) room ≡ false → pos 0 <ℤ room → ⊥
no_room_of room test some = grind (arith, ints)

looked_with_room : (net : Network) (entries : List (Option Entry)) (found : List (Option Found)) (last far : ℤ) (count key : ℕ) (A B : ℕ → Type 0) (top : Entry) → AreReduced net net.potentials → IsKey net key
    → (residual net key).to.0 < net.nodes + 1 → entry_at entries (residual net key).from.0 ≡ Some top → top.distance ≡ last → ((k : ℕ) → B k → A k ⊎ (k ≡ key)) → pos 0 <ℤ (residual net key).room
    → far ≡ last +ℤ reduced_cost net.potentials (residual net key) → IsSpread net entries found last count A → IsSpread net entries (looked_by net last key found far true) last count B
looked_with_room net entries found last far count key A B top reduced is_key to_in from_top top_far which room is_far spread =
    let t : ℕ = (residual net key).to.0 in
    let P : List (Option Found) → Type 0 = λ l. IsSpread net entries l last count B in
    let cost = reduced key is_key room in
    let at_top = taken_of-found (found_at found (residual net key).from.0) top (sym (spread.same (residual net key).from.0) ∙ from_top) in
    let last_least : pos 0 ≤ℤ last = omega (arith, ints, spread.least (residual net key).from.0 at_top.found at_top.is, at_top.distance, top_far) in
    let later : last ≤ℤ far = omega (arith, ints, cost, is_far) in
    let new : Found = fresh far (Some key) in
    elim (reached-either (found_at found t) far (Some key)) [
      | inl fresh_here ↦
          let is : looked_by net last key found far true ≡ set found t (Some new) = ap (λ (x : Found). set found t (Some x)) fresh_here.0 in
          let grown = spread_new net entries found last far count key A top is_key room from_top (omega (arith, ints, top_far, is_far)) later (omega (arith, ints, later, last_least)) to_in fresh_here.1 spread in
          let here : found_at (set found t (Some new)) t ≡ Some new = get_or-set_same found t (Some new) None (omega (arith, to_in, spread.found_size)) in
          subst P (sym is) (spread_covered net entries (set found t (Some new)) last count key A B top which from_top
          (λ some. record { entry = new; is = here; within = omega (arith, ints, top_far, is_far) }) grown)
      | inr kept ↦
          let f : Found = kept.0 in
          let is : looked_by net last key found far true ≡ found = ap (λ (x : Found). set found t (Some x)) kept.1 ∙ ap (set found t) (sym kept.2.is) ∙ set-get_or found t None in
          let near : f.distance ≤ℤ far = by_option f.place kept.2.near (λ k place. omega (arith, ints, spread.near t k f kept.2.is place, later)) in
          subst P (sym is) (spread_covered net entries found last count key A B top which from_top (λ some. record { entry = f; is = kept.2.is; within = omega (arith, ints, near, top_far, is_far) }) spread)
    ]

-- whatever the arc's room, it is covered after the look
pub IsSpread-looked : (net : Network) (entries : List (Option Entry)) (found : List (Option Found)) (last : ℤ) (count key : ℕ) (A B : ℕ → Type 0) (top : Entry) → AreReduced net net.potentials → IsKey net key
    → (residual net key).to.0 < net.nodes + 1 → entry_at entries (residual net key).from.0 ≡ Some top → top.distance ≡ last → ((k : ℕ) → B k → A k ⊎ (k ≡ key))
    → IsSpread net entries found last count A → IsSpread net entries (looked_along net last key found) last count B
IsSpread-looked net entries found last count key A B top reduced is_key to_in from_top top_far which spread = by_room (int_lt (pos 0) (residual net key).room) refl
  where
    by_room : (b : Bool) → int_lt (pos 0) (residual net key).room ≡ b → IsSpread net entries (looked_by net last key found (last +ℤ reduced_cost net.potentials (residual net key)) b) last count B
    by_room false test = spread_covered net entries found last count key A B top which from_top (λ room. absurd (no_room_of (residual net key).room test room)) spread
    by_room true test =
        looked_with_room net entries found last (last +ℤ reduced_cost net.potentials (residual net key)) count key A B top reduced is_key to_in from_top top_far which (room_of (residual net key).room test) refl spread

-- ---- the arcs of the node taken last, one after another
pub IsScanning-first : (net : Network) (entries after : List (Option Entry)) (found : List (Option Found)) (near : Near) (count : ℕ) → IsTakenNext net entries after found near count → IsScanning net after found near (count + 1) 0
IsScanning-first net entries after found near count next =
    let w : ℕ = near.node.0 in
    record {
      spread = IsSpread-weaker net after found near.distance (count + 1) (λ key. (residual net key).from.0 ≢ w) (IsScanned net w 0)
          (λ key is_key scanned. elim scanned [ inl other ↦ other | inr here ↦ absurd (omega (arith, here.1)) ]) next.spread;
      entry = next.entry;
      is = ap (λ l. entry_at l w) next.made ∙ get_or-set_same entries w (Some next.entry) None next.there;
      distance = next.distance;
    }

pub IsScanning-more : (net : Network) (entries : List (Option Entry)) (found : List (Option Found)) (near : Near) (count place key : ℕ) → AreReduced net net.potentials → place < length (leaving net near.node.0)
    → key ≡ get_or (leaving net near.node.0) place 0 → (residual net key).to.0 < net.nodes + 1 → IsScanning net entries found near count place
    → IsScanning net entries (looked_along net near.distance key found) near count (place + 1)
IsScanning-more net entries found near count place key reduced inside is_key to_in scanning =
    let w : ℕ = near.node.0 in
    let told = leaving-is net.arcs (2 * length net.arcs) w place inside in
    let K : ℕ → Type 0 = λ k. IsKey net k in
    let T : ℕ → Type 0 = λ k. (residual net k).from.0 ≡ w in
    let key_in : IsKey net key = subst K (sym is_key) told.below in
    let tail : (residual net key).from.0 ≡ w = subst T (sym is_key) (from_of-residual net (get_or (leaving net w) place 0) ∙ told.tail) in
    record {
      spread = IsSpread-looked net entries found near.distance count key (IsScanned net w place) (IsScanned net w (place + 1)) scanning.entry reduced key_in to_in (ap (entry_at entries) tail ∙ scanning.is) scanning.distance
          (λ k scanned. elim scanned [
            | inl other ↦ inl (inl other)
            | inr here ↦ elim (cases_eq here.0 place) [
              | inl same ↦ inr (sym here.2 ∙ ap (λ x. get_or (leaving net w) x 0) same ∙ sym is_key)
              | inr before ↦ inl (inr (here.0, omega (arith, here.1), here.2))
            ]
          ]) scanning.spread;
      entry = scanning.entry;
      is = scanning.is;
      distance = scanning.distance;
    }

pub IsSpread-scanned : (net : Network) (entries : List (Option Entry)) (found : List (Option Found)) (near : Near) (count scanned : ℕ) → scanned ≡ length (leaving net near.node.0) → IsScanning net entries found near count scanned
    → IsSpread net entries found near.distance count Every
IsSpread-scanned net entries found near count scanned is_all scanning =
    let w : ℕ = near.node.0 in
    IsSpread-weaker net entries found near.distance count (IsScanned net w scanned) Every (λ key is_key every. elim (cases_eq (residual net key).from.0 w) [
      | inl same ↦
          let stands = leaving-each net.arcs (2 * length net.arcs) w key is_key (sym (from_of-residual net key) ∙ same) in
          inr (stands.place, omega (arith, stands.below, is_all), stands.is)
      | inr other ↦ inl other
    ]) scanning.spread
