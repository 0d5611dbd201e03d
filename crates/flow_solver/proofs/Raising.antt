-- Lifts of the nodes that were taken.
use Rattle.std.proofs.Common.{◌≡◌, ◌≢◌, ℕ, ℤ, pos, ◌+ℤ◌, ◌-ℤ◌, ◌+◌, ◌<◌, Bool, true, List, length, get_or, set, Option, Some, None, arith, refl, ap, sym, ◌∙◌, inl, inr, get_or-set_same, get_or-set_other}
use Rattle.std.proofs.lemmas.Int.{ints}
use Rattle.std.proofs.lemmas.Bool.{cases_eq}
use Rattle.std.specs.Prelude.{slice_get}
use Rattle.std.proofs.lemmas.Option.{slice_get-get_or}
use Rattle.bud_base.specs.declared.ids.NodeId.{NodeId}
use Rattle.bud_flow.specs.Sums.{number_at}
use Rattle.residual.specs.Networks.{Network, IsLawful}
use Rattle.search_heap.specs.Searches.{node_at, AreInOrder}
use Rattle.search_heap.proofs.Offering.{entry-within}
use Rattle.search_heap.specs.declared.entries.Entry.{Entry as Found}
use Rattle.flow_solver.specs.Entries.{entry_at, label_of, label_at}
use Rattle.flow_solver.specs.Lifts.{AreLifted, IsLiftedAt, with_potentials}
use Rattle.flow_solver.specs.Spreading.{found_at, entries_of}
use Rattle.flow_solver.proofs.Founds.{entry-of}
use Rattle.flow_solver.proofs.Spreading.{taken_of-found, taken_of-taken}
use Rattle.flow_solver.specs.declared.entries.Entry.{Entry}

none_some : {A : Type 0} (o : Option A) (x : A) → o ≡ None → o ≡ Some x → ⊥
none_some o x none some = cc

some_inj : {A : Type 0} (x y : A) → Some x ≡ Some y → x ≡ y
some_inj x y e = cc

by_option : {A : Type 0} {P : Type 0} (o : Option A) → (o ≡ None → P) → ((x : A) → o ≡ Some x → P) → P
by_option None none some = none refl
by_option (Some x) none some = some x refl

-- the nodes taken at the first so many places are lifted, and no others
pub record AreLiftedAmong (old new : Network) (label : ℕ → ℤ) (last : ℤ) (taken : List NodeId) (k : ℕ) : Type 0 where
  pub same : new ≡ with_potentials old new.potentials new.is_open
  pub lifted : (v j : ℕ) → j < k → node_at taken j ≡ v → number_at new.potentials v ≡ number_at old.potentials v +ℤ (last -ℤ label v)
  pub others : (v : ℕ) → ((j : ℕ) → j < k → node_at taken j ≢ v) → number_at new.potentials v ≡ number_at old.potentials v
  pub lawful : IsLawful new

-- nodes taken at different places differ
differs : (found : List (Option Found)) (taken : List NodeId) (i j : ℕ) → AreInOrder found taken → i < length taken → j < length taken → i ≢ j → node_at taken i ≢ node_at taken j
differs found taken i j ordered i_in j_in other same =
    let one = ordered.nodes i i_in in
    let two = ordered.nodes j j_in in
    let entry : one.entry ≡ two.entry = some_inj one.entry two.entry (sym one.is ∙ ap (found_at found) same ∙ two.is) in
    other (some_inj i j (sym one.place ∙ ap (λ (e : Found). e.place) entry ∙ two.place))

pub AreLiftedAmong-none : (net : Network) (label : ℕ → ℤ) (last : ℤ) (taken : List NodeId) → IsLawful net → AreLiftedAmong net net label last taken 0
AreLiftedAmong-none net label last taken lawful = record { same = refl; lifted = λ v j below. absurd (omega arith); others = λ v none. refl; lawful = lawful }

pub AreLiftedAmong-more : (old mid new : Network) (label : ℕ → ℤ) (last : ℤ) (found : List (Option Found)) (taken : List NodeId) (k w : ℕ) → AreInOrder found taken → k < length taken → node_at taken k ≡ w
    → IsLiftedAt mid new w (last -ℤ label w) → AreLiftedAmong old mid label last taken k → AreLiftedAmong old new label last taken (k + 1)
AreLiftedAmong-more old mid new label last found taken k w ordered inside at_w lifted so_far =
    let rest : Network → Network = λ m. with_potentials m new.potentials new.is_open in
    record {
      same = lifted.same ∙ ap rest so_far.same;
      lifted = λ v j below at_j. elim (cases_eq j k) [
        | inl same ↦
            let here : v ≡ w = sym at_j ∙ ap (node_at taken) same ∙ at_w in
            let was : number_at mid.potentials w ≡ number_at old.potentials w = so_far.others w (λ i before at_i. differs found taken i k ordered (omega arith) inside (λ e. omega arith) (at_i ∙ sym at_w)) in
            rw here (omega (arith, ints, lifted.here, was))
        | inr other ↦
            let before : j < k = omega arith in
            let not_here : v ≢ w = λ e. differs found taken j k ordered (omega arith) inside other (at_j ∙ e ∙ sym at_w) in
            lifted.others v not_here ∙ so_far.lifted v j before at_j
      ];
      others = λ v none. lifted.others v (λ e. none k (omega arith) (at_w ∙ sym e)) ∙ so_far.others v (λ j below. none j (omega arith));
      lawful = lifted.lawful;
    }

-- all that were taken are lifted; the others have the last label, as the root has
pub AreLifted-among : (old new : Network) (found : List (Option Found)) (taken : List NodeId) (last : ℤ) (k : ℕ) → k ≡ length taken → AreInOrder found taken
    → label_at (entries_of found) last old.nodes ≡ last → AreLiftedAmong old new (label_at (entries_of found) last) last taken k
    → AreLifted old.nodes old.potentials new.potentials (label_at (entries_of found) last)
AreLifted-among old new found taken last k all ordered root among =
    let entries : List (Option Entry) = entries_of found in
    record {
      each = λ v below. by_option (entry_at entries v)
          (λ free.
          let untaken : (j : ℕ) → j < k → node_at taken j ≢ v = λ j inside e.
          let one = ordered.nodes j (omega arith) in
          none_some (entry_at entries v) _ free (entry-of found v ∙ taken_of-taken (found_at found v) one.entry j (ap (found_at found) (sym e) ∙ one.is) one.place) in
          omega (arith, ints, among.others v untaken, ap (label_of last) free, root))
          (λ e is.
          let one = taken_of-found (found_at found v) e (sym (entry-of found v) ∙ is) in
          let there = ordered.places v e.place one.found one.is one.place in
          omega (arith, ints, among.lifted v e.place (omega (arith, there.0)) there.1, root));
    }

-- ---- one node
-- the root's label is the last, so that it stays
pub IsLiftedAt-root : (net : Network) (v : ℕ) (by : ℤ) → IsLawful net → by ≡ pos 0 → IsLiftedAt net net v by
IsLiftedAt-root net v by lawful none = record { here = omega (arith, ints, none); others = λ w other. refl; same = refl; lawful = lawful }

pub IsLiftedAt-lifted : (old new : Network) (v : ℕ) (by told : ℤ) → v < length old.potentials → told ≡ by → new ≡ with_potentials old (set old.potentials v (number_at old.potentials v +ℤ told)) true → IsLawful new
    → IsLiftedAt old new v by
IsLiftedAt-lifted old new v by told there is_by is lawful =
    let ps : List ℤ = set old.potentials v (number_at old.potentials v +ℤ told) in
    let is_ps : new.potentials ≡ ps = ap (λ (n : Network). n.potentials) is in
    let is_open : new.is_open ≡ true = ap (λ (n : Network). n.is_open) is in
    let put : List ℤ → Network = λ qs. with_potentials old qs true in
    let put_open : Bool → Network = λ b. with_potentials old new.potentials b in
    record {
      here = rw (is_ps, get_or-set_same old.potentials v (number_at old.potentials v +ℤ told) (pos 0) there) (omega (arith, ints, is_by));
      others = λ w other. rw is_ps (get_or-set_other old.potentials v w (number_at old.potentials v +ℤ told) (pos 0) other);
      same = is ∙ ap put (sym is_ps) ∙ ap put_open (sym is_open);
      lawful = lawful;
    }

-- the node that was taken at a place is one of the network's
pub taken-within : (found : List (Option Found)) (taken : List NodeId) (k : ℕ) → AreInOrder found taken → k < length taken → node_at taken k < length found
taken-within found taken k ordered inside = let one = ordered.nodes k inside in entry-within found (node_at taken k) one.entry one.is

pub not-lifted : (old mid : Network) (label : ℕ → ℤ) (last : ℤ) (found : List (Option Found)) (taken : List NodeId) (k w : ℕ) → AreInOrder found taken → k < length taken → node_at taken k ≡ w → AreLiftedAmong old mid label last taken k
    → number_at mid.potentials w ≡ number_at old.potentials w
not-lifted old mid label last found taken k w ordered inside at_w so_far = so_far.others w (λ i before at_i. differs found taken i k ordered (omega arith) inside (λ e. omega arith) (at_i ∙ sym at_w))

pub taken-node : (taken : List NodeId) (k : ℕ) (node : NodeId) → k < length taken → Some node ≡ slice_get taken k → node_at taken k ≡ node.0
taken-node taken k node inside is = ap (λ (n : NodeId). n.0) (some_inj (get_or taken k (record { 0 = 0 })) node (sym (slice_get-get_or taken k (record { 0 = 0 }) inside) ∙ sym is))

pub taken-some : (taken : List NodeId) (k : ℕ) → k < length taken → None ≡ slice_get taken k → ⊥
taken-some taken k inside is = none_some (slice_get taken k) (get_or taken k (record { 0 = 0 })) (sym is) (slice_get-get_or taken k (record { 0 = 0 }) inside)
