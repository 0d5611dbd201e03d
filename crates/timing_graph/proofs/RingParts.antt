-- The part of a ring between two visits of a node.
use Rattle.std.specs.Prelude.{◌≡◌, ℕ, replicate, zero, suc, ◌<◌, ◌≤◌, ◌+◌, ◌-◌, List, [], ◌∷◌, ◌++◌, drop, take, length, slice_index_or, slice_range, All, Option, Some, None}
use Rattle.std.specs.List.{between}
use Rattle.std.specs.List.Sorted.{IsPermutation}
use Rattle.std.proofs.Common.{set, refl, sym, ◌∙◌, ap, subst, arith, inl, inr, get_or-set_same, get_or-set_other}
use Rattle.std.proofs.lemmas.Bool.{cases_eq}
use Rattle.std.proofs.lemmas.List.{get_or-drop, get_or_default, length-drop, take_all}
use Rattle.std.proofs.lemmas.List.Elements.{All-nil, All-cons}
use Rattle.std.proofs.lemmas.List.Edits.{length-between, get_or-between}
use Rattle.std.proofs.lemmas.List.{take-append-drop}
use Rattle.std.proofs.lemmas.List.Sorted.{IsPermutation-append_comm}
use Rattle.std.proofs.lemmas.Option.{none-some}
use Rattle.bud_base.specs.Paths.{item_at, Joins}
use Rattle.bud_base.specs.Orders.{IsCycle}
use Rattle.bud_base.specs.Rings.{IsRing, IsLeastPlace, IsTurned}
use Rattle.bud_base.proofs.Rings.{IsCycle-from_turned}
use Rattle.bud_base.specs.declared.ids.ItemId.{ItemId}
use Rattle.bud_base.specs.declared.problems.Item.{Item}
use Rattle.timing_graph.specs.declared.rings.Part.{Part}
use Rattle.timing_graph.specs.Rings.{EnterOnce, node_behind, IsOwnRing, AreSeen, IsOwnCycle}
use Rattle.timing_graph.proofs.Apartness.{Apart-from_pairs, Apart-pairs, Apart-permutation}

pub Joins-ids : (items : List Item) (a b : ℕ) (is : List ItemId) → Joins items a is b → All (λ i. i.0 < length items) is
Joins-ids items a b [] joined = All-nil (λ (i : ItemId). i.0 < length items)
Joins-ids items a b (i ∷ is) joined = All-cons (λ (i : ItemId). i.0 < length items) i is joined.0 (Joins-ids items (item_at items i.0).to.0 b is joined.2)

pub IsCycle-ids : (items : List Item) (is : List ItemId) → IsCycle items is → All (λ i. i.0 < length items) is
IsCycle-ids items [] cycle = absurd cycle
IsCycle-ids items (i ∷ is) cycle = Joins-ids items _ _ (i ∷ is) cycle.0

pub IsCycle-ring : (items : List Item) (is : List ItemId) → IsCycle items is → IsRing items is
IsCycle-ring items [] cycle = absurd cycle
IsCycle-ring items (i ∷ is) cycle = ((item_at items i.0).from.0, cycle.0)

pub IsCycle-some : (items : List Item) (is : List ItemId) → IsCycle items is → 0 < length is
IsCycle-some items [] cycle = absurd cycle
IsCycle-some items (i ∷ is) cycle = omega arith

-- items join up to the node behind each of them, and on from there
Joins-take : (items : List Item) (a b : ℕ) (is : List ItemId) (k : ℕ) → Joins items a is b → k < length is → Joins items a (take (suc k) is) (node_behind items is k)
Joins-take items a b [] k joined inside = absurd (omega (arith, inside))
Joins-take items a b (i ∷ is) zero joined inside = (joined.0, joined.1, refl)
Joins-take items a b (i ∷ is) (suc k) joined inside = (joined.0, joined.1, Joins-take items (item_at items i.0).to.0 b is k joined.2 (omega (arith, inside)))

Joins-drop : (items : List Item) (a b : ℕ) (is : List ItemId) (k : ℕ) → Joins items a is b → k < length is → Joins items (node_behind items is k) (drop (suc k) is) b
Joins-drop items a b [] k joined inside = absurd (omega (arith, inside))
Joins-drop items a b (i ∷ is) zero joined inside = joined.2
Joins-drop items a b (i ∷ is) (suc k) joined inside = Joins-drop items (item_at items i.0).to.0 b is k joined.2 (omega (arith, inside))

none-there : {A : Type 0} (n v : ℕ) (x : A) → slice_index_or (replicate n x) v x ≡ x
none-there zero v x = refl
none-there (suc n) zero x = refl
none-there (suc n) (suc v) x = none-there n v x

pub AreSeen-none : (items : List Item) (ring : List ItemId) (nodes : ℕ) → AreSeen items ring 0 (replicate nodes None)
AreSeen-none items ring nodes = record {
  each = λ k below. absurd (omega (arith, below));
  below = λ v k is. absurd (none-some k (sym (none-there {A = Option ℕ} nodes v None) ∙ is));
  only = λ v k is. absurd (none-some k (sym (none-there {A = Option ℕ} nodes v None) ∙ is));
}

some-same : (j k : ℕ) → Some j ≡ Some k → j ≡ k
some-same j k is = (cc)

pub AreSeen-more : (items : List Item) (ring : List ItemId) (k : ℕ) (seen : List (Option ℕ)) (node : ℕ) → node < length seen → node ≡ node_behind items ring k → slice_index_or seen node None ≡ None
    → AreSeen items ring k seen → AreSeen items ring (k + 1) (set seen node (Some k))
AreSeen-more items ring k seen node inside is new now =
    let here : slice_index_or (set seen node (Some k)) node None ≡ Some k = get_or-set_same seen node (Some k) None inside in
    let other : (v : ℕ) → (v ≡ node → ⊥) → slice_index_or (set seen node (Some k)) v None ≡ slice_index_or seen v None = λ v differs. get_or-set_other seen node v (Some k) None differs in
    record {
      each = λ j below. elim (cases_eq j k) [
        | inl same ↦ ap (λ v. slice_index_or (set seen node (Some k)) v None) (ap (node_behind items ring) same ∙ sym is) ∙ (here ∙ ap (λ m. Some m) (sym same))
        | inr differs ↦
            let old = now.each j (omega (arith, below, differs)) in
            other (node_behind items ring j) (λ same. none-some j (sym new ∙ (ap (λ v. slice_index_or seen v None) (sym same) ∙ old))) ∙ old
      ];
      below = λ v j found. elim (cases_eq v node) [
        | inl same ↦ (let equal = some-same k j (sym here ∙ (ap (λ u. slice_index_or (set seen node (Some k)) u None) (sym same) ∙ found)) in omega (arith, equal))
        | inr differs ↦ (let less = now.below v j (sym (other v differs) ∙ found) in omega (arith, less))
      ];
      only = λ v j found. elim (cases_eq v node) [
        | inl same ↦
            let equal = some-same k j (sym here ∙ (ap (λ u. slice_index_or (set seen node (Some k)) u None) (sym same) ∙ found)) in
            ap (node_behind items ring) (sym equal) ∙ (sym is ∙ sym same)
        | inr differs ↦ now.only v j (sym (other v differs) ∙ found)
      ];
    }

to-between : (items : List Item) (ring : List ItemId) (i j m : ℕ) (d : ItemId) → j ≤ length ring → m < length (between i j ring) → i + m < j → i + m < length ring
    → (item_at items (slice_index_or (between i j ring) m d).0).to.0 ≡ node_behind items ring (i + m)
to-between items ring i j m d most inside before within =
    ap (λ (x : ItemId). (item_at items x.0).to.0) (get_or-between ring i j m d before ∙ get_or_default ring (i + m) d (record { 0 = 0 }) within)

-- between two visits of a node no node is entered twice
pub IsOwnRing-found : (items : List Item) (ring : List ItemId) (k before node : ℕ) (seen : List (Option ℕ)) → IsRing items ring → k < length ring → node ≡ node_behind items ring k
    → slice_index_or seen node None ≡ Some before → AreSeen items ring k seen → IsOwnRing items ring (record { from = before + 1; to = k + 1 })
IsOwnRing-found items ring k before node seen joined inside is found now =
    let less : before < k = now.below node before found in
    let first : node_behind items ring before ≡ node = now.only node before found in
    let size : length (between (before + 1) (k + 1) ring) ≡ k + 1 - (before + 1) = length-between ring (before + 1) (k + 1) (omega (arith, inside)) in
    let onward = Joins-drop items joined.0 joined.0 ring before joined.1 (omega (arith, less, inside)) in
    let part = Joins-take items (node_behind items ring before) joined.0 (drop (suc before) ring) (k - before - 1) onward (omega (arith, less, inside, length-drop (suc before) ring)) in
    let there : node_behind items (drop (suc before) ring) (k - before - 1) ≡ node_behind items ring k
    = ap (λ (x : ItemId). (item_at items x.0).to.0) (get_or-drop (suc before) ring (k - before - 1) (record { 0 = 0 }))
    ∙ ap (node_behind items ring) (omega (arith, less)) in
    let count : suc (k - before - 1) ≡ k + 1 - (before + 1) = omega (arith, less) in
    let begin : suc before ≡ before + 1 = omega arith in
    record {
      some = omega (arith, less);
      within = omega (arith, inside);
      joined = (
        node,
        subst (λ b. Joins items node (take (k + 1 - (before + 1)) (drop b ring)) node) begin
            (subst (λ n. Joins items node (take n (drop (suc before) ring)) node) count
            (subst (λ v. Joins items v (take (suc (k - before - 1)) (drop (suc before) ring)) node) first
            (subst (Joins items (node_behind items ring before) (take (suc (k - before - 1)) (drop (suc before) ring))) (there ∙ sym is) part))),
      );
      once = λ i j d lower upper same.
          let front = to-between items ring (before + 1) (k + 1) i d (omega (arith, inside)) (omega (arith, lower, upper)) (omega (arith, lower, upper, size)) (omega (arith, lower, upper, size, inside)) in
          let back = to-between items ring (before + 1) (k + 1) j d (omega (arith, inside)) upper (omega (arith, upper, size)) (omega (arith, upper, size, inside)) in
          let equal : node_behind items ring (before + 1 + i) ≡ node_behind items ring (before + 1 + j) = sym front ∙ (same ∙ back) in
          let seen_front = now.each (before + 1 + i) (omega (arith, lower, upper, size)) in
          elim (cases_eq (before + 1 + j) k) [
            | inl last ↦
                let at_node : node_behind items ring (before + 1 + i) ≡ node = equal ∙ (ap (node_behind items ring) last ∙ sym is) in
                let places = some-same (before + 1 + i) before (sym seen_front ∙ (ap (λ v. slice_index_or seen v None) at_node ∙ found)) in
                omega (arith, places)
            | inr earlier ↦
                let seen_back = now.each (before + 1 + j) (omega (arith, upper, size, earlier)) in
                let places = some-same (before + 1 + i) (before + 1 + j) (sym seen_front ∙ (ap (λ v. slice_index_or seen v None) equal ∙ seen_back)) in
                omega (arith, places, lower)
          ];
    }

whole : {X : Type 0} (xs : List X) → between 0 (length xs) xs ≡ xs
whole xs =
    let all : length xs - 0 ≡ length xs = omega arith in
    ap (λ n. take n xs) all ∙ take_all (length xs) xs (omega arith)

-- where no node comes again, the whole ring leads to no node twice
pub IsOwnRing-whole : (items : List Item) (ring : List ItemId) (seen : List (Option ℕ)) → IsRing items ring → 0 < length ring → AreSeen items ring (length ring) seen
    → IsOwnRing items ring (record { from = 0; to = length ring })
IsOwnRing-whole items ring seen joined some now = record {
  some = some;
  within = omega arith;
  joined = subst (IsRing items) (sym (whole ring)) joined;
  once = subst (EnterOnce items) (sym (whole ring))
      (λ i j d less inside same.
      let front = ap (λ (x : ItemId). (item_at items x.0).to.0) (get_or_default ring i d (record { 0 = 0 }) (omega (arith, less, inside))) in
      let back = ap (λ (x : ItemId). (item_at items x.0).to.0) (get_or_default ring j d (record { 0 = 0 }) inside) in
      let places = some-same i j (sym (now.each i (omega (arith, less, inside))) ∙ (ap (λ v. slice_index_or seen v None) (sym front ∙ (same ∙ back)) ∙ now.each j inside)) in
      omega (arith, places, less));
}

-- an own ring, turned so that its least number comes first
pub IsOwnCycle-from_turned : (items : List Item) (ring : List ItemId) (part : Part) (old new : List ItemId) → IsOwnRing items ring part → old ≡ slice_range ring part.from part.to → IsTurned old new
    → IsOwnCycle items new
IsOwnCycle-from_turned items ring part old new own is turned =
    let moves : IsPermutation old new
    = subst (λ xs. IsPermutation xs new) (take-append-drop turned.place old)
    (subst (IsPermutation (take turned.place old ++ drop turned.place old)) (sym turned.turned) (IsPermutation-append_comm (take turned.place old) (drop turned.place old))) in
    record {
      cycle = IsCycle-from_turned items old new (subst (IsRing items) (sym is) own.joined) turned;
      once =
          Apart-pairs (λ (a b : ItemId). (item_at items a.0).to.0 ≡ (item_at items b.0).to.0 → ⊥) new
          (Apart-permutation (λ (a b : ItemId). (item_at items a.0).to.0 ≡ (item_at items b.0).to.0 → ⊥) old new moves
          (Apart-from_pairs (λ (a b : ItemId). (item_at items a.0).to.0 ≡ (item_at items b.0).to.0 → ⊥) (λ x y differ same. differ (sym same)) old (subst (EnterOnce items) (sym is) own.once)));
    }

-- what is read at a place, at the default that definitions have
pub there-from_index : (seen : List (Option ℕ)) (v : ℕ) (o : Option ℕ) → v < length seen → o ≡ slice_index_or seen v o → slice_index_or seen v None ≡ o
there-from_index seen v o below is = get_or_default seen v None o below ∙ sym is
