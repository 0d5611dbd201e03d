-- A layered problem has at most twice as many nodes as items.
use Rattle.std.specs.Prelude.{◌≡◌, ◌⊎◌, [], ℕ, zero, suc, ◌<◌, ◌≤◌, ◌+◌, ◌-◌, ◌*◌, nat_lt, true, false, length, All, AllPairs, slice_index_or, if◌then◌else◌}
use Rattle.std.proofs.Common.{refl, sym, ◌∙◌, ap, subst, arith, inl, inr}
use Rattle.std.proofs.lemmas.Bool.{cases_lt}
use Rattle.bud_base.specs.Paths.{item_at, start_at, end_at}
use Rattle.bud_base.specs.Soundness.{IsWithinLimits}
use Rattle.layer_theory.proofs.LayerPaths as paths
use Rattle.bud_base.specs.declared.ids.ItemId.{ItemId}
use Rattle.bud_design.specs.Arcs.{arc_at}
use Rattle.bud_design.specs.Exceptions.{class_at}
use Rattle.bud_design.specs.Layers.{class_number, Stands, IsLayering}
use Rattle.bud_design.specs.TimingPaths.{View}
use Rattle.bud_design.specs.declared.layers.Class.{Class}
use Rattle.bud_design.specs.declared.layers.LayerNode.{LayerNode}
use Rattle.bud_design.specs.declared.layers.Layered.{Layered}
use Rattle.bud_design.specs.declared.policies.Policy.{Policy}
use Rattle.layer_theory.proofs.LayerPlaces as places
use Rattle.layer_theory.proofs.LayerOrder as orders

-- numbers without c, those above it one less
abbrev without : ℕ → ℕ → ℕ
without c x = if nat_lt x c then x else x - 1

without-below : (c x k : ℕ) → (x ≡ c → ⊥) → c < k → x < k → without c x < k - 1
without-below c x k other first second = elim (cases_lt x c) [
  | inl less ↦ let e : nat_lt x c ≡ true = grind (arith, less) in rw e (omega (arith, less, first))
  | inr most ↦ elim (cases_lt c x) [
    | inl above ↦ let e : nat_lt x c ≡ false = grind (arith, above) in rw e (omega (arith, above, second))
    | inr least ↦ absurd (other (omega (arith, most, least)))
  ]
]

without-one : (c x y : ℕ) → (x ≡ c → ⊥) → (y ≡ c → ⊥) → without c x ≡ without c y → x ≡ y
without-one c x y first second same = elim (cases_lt x c) [
  | inl less ↦ elim (cases_lt y c) [
    | inl too ↦ grind (arith, less, too, same)
    | inr most ↦ absurd (second (grind (arith, less, most, same)))
  ]
  | inr most ↦ elim (cases_lt y c) [
    | inl less ↦ absurd (first (grind (arith, less, most, same)))
    | inr also ↦ elim (cases_lt c x) [
      | inl above ↦ elim (cases_lt c y) [
        | inl high ↦ grind (arith, most, also, above, high, same)
        | inr least ↦ absurd (second (omega (arith, also, least)))
      ]
      | inr least ↦ absurd (first (omega (arith, most, least)))
    ]
  ]
]

-- different numbers below k for each number below m: m is at most k
pub at_most : (m k : ℕ) (f : (i : ℕ) → i < m → ℕ) → ((i : ℕ) (l : i < m) → f i l < k) → ((i j : ℕ) (l : i < m) (h : j < m) → f i l ≡ f j h → i ≡ j) → m ≤ k
at_most zero k f below one = omega arith
at_most (suc m) k f below one =
    let last : m < suc m = omega arith in
    let more : (i : ℕ) → i < m → i < suc m = λ i l. omega (arith, l) in
    let other : (i : ℕ) (l : i < m) → f i (more i l) ≡ f m last → ⊥ = λ i l e. absurd (omega (arith, l, one i m (more i l) last e)) in
    let rest = at_most m (k - 1) (λ i l. without (f m last) (f i (more i l)))
    (λ i l. without-below (f m last) (f i (more i l)) k (other i l) (below m last) (below i (more i l)))
    (λ i j l h e. one i j (more i l) (more j h) (without-one (f m last) (f i (more i l)) (f j (more j h)) (other i l) (other j h) e)) in
    omega (arith, rest, below m last)

module _ (w : View) (policy : Policy) (layered : Layered) (layering : IsLayering w policy layered) (rise : AllPairs (λ e f. nat_lt e.number f.number ≡ true) w.all.exceptions)
    (apart : All (λ l. All (λ x. l.pin.0 ≡ x.pin.0 → ⊥) w.all.captures) w.all.launches) where
  -- an item leads from or to the node
  pub record TouchesNode (n : ℕ) : Type 0 where
    pub item : ItemId
    pub within : item.0 < length layered.problem.items
    pub side : ℕ
    pub at : ((side ≡ 0) × ((item_at layered.problem.items item.0).from.0 ≡ n)) ⊎ ((side ≡ 1) × ((item_at layered.problem.items item.0).to.0 ≡ n))

  pub node-touched : (n : ℕ) → n < length layered.nodes → TouchesNode n
  node-touched n below =
      let d : LayerNode = record { pin = record { 0 = 0 }; «class» = record { 0 = 0 } } in
      let x = slice_index_or layered.nodes n d in
      let k = class_number layered.classes x.«class».0 in
      let stands = places.StandsAt-from_read w policy layered layering n d below in
      let has = orders.HasItem-from_node w rise apart x.pin.0 k (places.StandsAt-node w policy layered layering n x.pin.0 k stands) in
      let placed = places.item-placed w policy layered layering has.arc has.before has.item (orders.IsNode-before_item w rise apart has.arc has.before has.item) in
      touch placed.0 placed.1.0 x.pin.0 k stands has.before (has.arc.0)
      (ap (λ y. y.0) placed.1.1.0) placed.1.1.1 has.side
    where
      touch : (i : ItemId) → i.0 < length layered.problem.items → (v : ℕ) (k : Class) → Stands layered.classes layered.nodes n v k → (j : Class) (a : ℕ)
          → (places.layer_item w policy layered layering i).arc.0 ≡ a → class_number layered.classes (places.layer_item w policy layered layering i).«class».0 ≡ j
          → (((arc_at w.arcs a).from ≡ v) × (j ≡ k)) ⊎ (((arc_at w.arcs a).to ≡ v) × (k ≡ class_at w.all j v)) → TouchesNode n
      touch i within v k stands j a arc_is class_is (inl side) =
          let item = places.item-stands w policy layered layering i within in
          record {
            item = i;
            within = within;
            side = 0;
            at = inl (
              refl,
              places.StandsAt-one_number w policy layered layering (item_at layered.problem.items i.0).from.0 n v k
                  (subst (λ u. Stands layered.classes layered.nodes (item_at layered.problem.items i.0).from.0 u k) (ap (λ b. (arc_at w.arcs b).from) arc_is ∙ side.0)
                  (subst (Stands layered.classes layered.nodes (item_at layered.problem.items i.0).from.0 (arc_at w.arcs (places.layer_item w policy layered layering i).arc.0).from) (class_is ∙ side.1) item.from)) stands,
            );
          }
      touch i within v k stands j a arc_is class_is (inr side) =
          let item = places.item-stands w policy layered layering i within in
          let to_is = ap (λ b. (arc_at w.arcs b).to) arc_is ∙ side.0 in
          record {
            item = i;
            within = within;
            side = 1;
            at = inr (
              refl,
              places.StandsAt-one_number w policy layered layering (item_at layered.problem.items i.0).to.0 n v k
                  (subst (Stands layered.classes layered.nodes (item_at layered.problem.items i.0).to.0 v) (ap (λ c. class_at w.all c v) class_is ∙ sym side.1)
                  (subst (λ u. Stands layered.classes layered.nodes (item_at layered.problem.items i.0).to.0 u (class_at w.all (class_number layered.classes (places.layer_item w policy layered layering i).«class».0) u)) to_is item.to)) stands,
            );
          }

  pub nodes-at_most : layered.problem.nodes ≤ 2 * length layered.problem.items
  nodes-at_most =
      let counted = at_most (length layered.nodes) (2 * length layered.problem.items) (λ n l. 2 * (node-touched n l).item.0 + (node-touched n l).side)
      (λ n l. low (node-touched n l)) (λ n m l h e. one n m (node-touched n l) (node-touched m h) e) in
      omega (arith, counted, layering.node_count)
    where
      side-few : {n : ℕ} (t : TouchesNode n) → t.side ≤ 1
      side-few t = few t.side t.at
        where
          few : {P Q : Type 0} (s : ℕ) → ((s ≡ 0) × P) ⊎ ((s ≡ 1) × Q) → s ≤ 1
          few s (inl a) = omega (arith, a.0)
          few s (inr b) = omega (arith, b.0)

      low : {n : ℕ} (t : TouchesNode n) → 2 * t.item.0 + t.side < 2 * length layered.problem.items
      low t = omega (arith, t.within, side-few t)

      one : (n m : ℕ) (t : TouchesNode n) (u : TouchesNode m) → 2 * t.item.0 + t.side ≡ 2 * u.item.0 + u.side → n ≡ m
      one n m t u e =
          let item_same : t.item.0 ≡ u.item.0 = omega (arith, e, side-few t, side-few u) in
          let side_same : t.side ≡ u.side = omega (arith, e, side-few t, side-few u) in
          both t.at u.at item_same side_same
        where
          both : ((t.side ≡ 0) × ((item_at layered.problem.items t.item.0).from.0 ≡ n)) ⊎ ((t.side ≡ 1) × ((item_at layered.problem.items t.item.0).to.0 ≡ n))
              → ((u.side ≡ 0) × ((item_at layered.problem.items u.item.0).from.0 ≡ m)) ⊎ ((u.side ≡ 1) × ((item_at layered.problem.items u.item.0).to.0 ≡ m))
              → t.item.0 ≡ u.item.0 → t.side ≡ u.side → n ≡ m
          both (inl a) (inl b) i s = sym a.1 ∙ (ap (λ j. (item_at layered.problem.items j).from.0) i ∙ b.1)
          both (inl a) (inr b) i s = absurd (omega (arith, a.0, b.0, s))
          both (inr a) (inl b) i s = absurd (omega (arith, a.0, b.0, s))
          both (inr a) (inr b) i s = sym a.1 ∙ (ap (λ j. (item_at layered.problem.items j).to.0) i ∙ b.1)

  -- a node has at most one start and at most one end
  pub starts-at_most : length layered.problem.starts ≤ layered.problem.nodes
  starts-at_most =
      at_most (length layered.problem.starts) layered.problem.nodes (λ i l. (start_at layered.problem.starts i).node.0)
      (λ i l. omega (arith, (layering.starts.sound i (start_at [] 0) l).node.number, layering.node_count))
      (λ i j l h e. paths.start-one w policy layered layering rise apart i j l h e)

  pub ends-at_most : length layered.problem.ends ≤ layered.problem.nodes
  ends-at_most =
      at_most (length layered.problem.ends) layered.problem.nodes (λ i l. (end_at layered.problem.ends i).node.0)
      (λ i l. omega (arith, (layering.ends.sound i (end_at [] 0) l).node.number, layering.node_count))
      (λ i j l h e. paths.end-one w policy layered layering rise apart i j l h e)

  -- so the limit on items keeps the others
  pub IsWithinLimits-from_items : length layered.problem.items ≤ 4194304 → IsWithinLimits layered.problem
  IsWithinLimits-from_items few = record {
    items = few;
    nodes = omega (arith, few, nodes-at_most);
    starts = omega (arith, few, nodes-at_most, starts-at_most);
    ends = omega (arith, few, nodes-at_most, ends-at_most);
  }
