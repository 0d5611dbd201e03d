-- What the parts of a layering say of its classes, nodes and items.
use Rattle.std.proofs.Common.{◌≡◌, ℕ, zero, suc, ◌+◌, ◌<◌, ◌≤◌, ◌⊎◌, ◌==◌, ◌&&◌, ◌||◌, nat_lt, Bool, true, false, List, [], ◌∷◌, length, get_or, map, Option, Some, None, refl, sym, ◌∙◌, ap, subst, inl, inr, arith, true≢false}
use Rattle.std.specs.Prelude.{All, AllPairs, Contains}
use Rattle.std.specs.List.{AllZip}
use Rattle.std.proofs.lemmas.Bool.{cases_lt, cases_eq, ne_eqb}
use Rattle.std.proofs.lemmas.List.{get_or_default, get_or-map, length-map}
use Rattle.bud_base.specs.declared.problems.Item.{Item}
use Rattle.bud_design.specs.Arcs.{arc_at}
use Rattle.bud_design.specs.Exceptions.{class_at}
use Rattle.bud_design.specs.Layers.{IsNode, IsItem, IsLive, BeginsClass, IsFirstLaunch, StandsBefore, AreClasses, class_number, steps_before, IsLayerNode, IsLayerItem, Stands}
use Rattle.bud_design.specs.TimingPaths.{View}
use Rattle.bud_design.specs.declared.layers.Class.{Class}
use Rattle.bud_design.specs.declared.layers.LayerNode.{LayerNode}
use Rattle.bud_design.specs.declared.layers.LayerItem.{LayerItem}
use Rattle.layer_theory.proofs.LayerPlaces.{StandsBefore-same, one-place}
use Rattle.path_states.specs.Tables.{state_at, pin_at, class_in, launch_in, arc_in, from_in, to_in}
use Rattle.state_laws.specs.Views.{HasArcs, AreLive}
use Rattle.state_laws.proofs.LiveStates.{AreLive-from_reaching}
use Rattle.state_laws.proofs.LayerStates.{HasLive, HasLiveEdge, live-from_node, edge-from_item, item-from_edge, node-from_live, begins-from_live, live-from_begins}
use Rattle.state_numbers.specs.Firsts.{HasFirst}
use Rattle.state_numbers.specs.Placed.{placed_at, IsPlaced}
use Rattle.state_numbers.specs.Ranks.{key_at, IsRank}
use Rattle.state_numbers.specs.declared.placed.Placed.{Placed}
use Rattle.state_numbers.specs.declared.ranks.KindKey.{KindKey}
use Rattle.path_classes.specs.Placing.{classes_of, node_of, item_of, rank_in, IsNodeOf, IsItemOf}
use Rattle.path_classes.specs.Layering.{Parts, AreParts}
use Rattle.path_classes.proofs.PlacingSteps.{live-ranked}
use Rattle.path_classes.proofs.StartSteps.{one-kind}

pub Contains-map : {X Y : Type 0} (f : X → Y) (xs : List X) (x : X) → Contains xs x → Contains (map f xs) (f x)
Contains-map f xs x (k, below, is) = (k, omega (arith, below, length-map xs f), get_or-map f xs k x (f x) below ∙ ap f is)

by_test : (a b : ℕ) (p : Bool) → (nat_lt a b || (a == b && p)) ≡ true → (a < b) ⊎ ((a ≡ b) × (p ≡ true))
by_test a b p is = elim (cases_lt a b) [
  | inl less ↦ inl less
  | inr most ↦
      let not_less : nat_lt a b ≡ false = grind (arith, most) in
      elim (cases_eq a b) [
        | inl same ↦ inr (same, grind (arith, is, not_less, same))
        | inr other ↦ absurd (true≢false (sym is ∙ rw (not_less, ne_eqb a b other) refl))
      ]
]

module _ (w : View) (arcs : List Item) (has_arcs : HasArcs w arcs) (rise : AllPairs (λ e f. nat_lt e.number f.number ≡ true) w.all.exceptions)
    (apart : All (λ l. All (λ x. l.pin.0 ≡ x.pin.0 → ⊥) w.all.captures) w.all.launches) (p : Parts) (are : AreParts arcs w.all p) where
  abbrev pub classes : List Class
  classes = classes_of p.table.kinds p.keys

  pub live_is : AreLive w p.table p.live
  live_is = AreLive-from_reaching w arcs has_arcs p.table are.explored p.state_ends are.asks p.live are.leading

  kind-below : (i : ℕ) → i < length p.table.states → (state_at p.table.states i).kind < length p.table.kinds
  kind-below i below = are.explored.states.lists.kinds i (state_at [] 0) below

  -- the class of a rank is that of its key
  class-key : (r : ℕ) → r < length p.keys → class_number classes r ≡ class_number p.table.kinds (key_at p.keys r).kind
  class-key r below = get_or-map (λ (x : KindKey). class_number p.table.kinds x.kind) p.keys r (key_at [] 0) (class_number [] 0) below

  pub length-classes : length classes ≡ length p.keys
  length-classes = length-map p.keys (λ (x : KindKey). class_number p.table.kinds x.kind)

  rank-is : (c r : ℕ) → c < length p.table.kinds → get_or p.ranks c None ≡ Some r → (r < length p.keys) × ((key_at p.keys r).kind ≡ c)
  rank-is c r below is = subst (IsRank p.keys (length p.keys) c) is (are.ranked.ranks_are c (omega (arith, below, are.ranked.size)))

  pub ranked-class : (c r : ℕ) → c < length p.table.kinds → get_or p.ranks c None ≡ Some r → (r < length classes) × (class_number classes r ≡ class_number p.table.kinds c)
  ranked-class c r below is =
      let rank = rank-is c r below is in
      (omega (arith, rank.0, length-classes), class-key r rank.0 ∙ ap (λ b. class_number p.table.kinds b) rank.1)

  -- that of a state's rank is the state's
  pub state-class : (i r : ℕ) → i < length p.table.states → rank_in p.ranks p.table i ≡ Some r → (r < length classes) × (class_number classes r ≡ class_in p.table i)
  state-class i r below is = ranked-class (state_at p.table.states i).kind r (kind-below i below) is

  -- ---- classes
  first-launch : (c n : ℕ) → c < length p.table.kinds → HasFirst p.table.states p.table.launches p.live (length p.table.states) c n → IsFirstLaunch w (class_number p.table.kinds c) n
  first-launch c n below has = record {
    begins = subst (λ m. BeginsClass w m (class_number p.table.kinds c)) has.launch
        (subst (λ b. BeginsClass w (launch_in p.table has.state) (class_number p.table.kinds b)) has.alive.kind_is
        (begins-from_live w arcs has_arcs p.table are.explored p.live live_is rise apart has.state has.within has.alive.live_is));
    first = λ m begins.
        let there = live-from_begins w arcs has_arcs p.table are.explored p.live live_is rise apart m (class_number p.table.kinds c) begins in
        let kind = one-kind p.table.kinds are.explored.states.lists.different (state_at p.table.states there.0).kind c (kind-below there.0 there.1.0) below there.1.1.1.0 in
        omega (arith, has.first there.0 there.1.0 (record { live_is = there.1.1.0; kind_is = kind }), there.1.1.1.1);
  }

  key-first : (r : ℕ) → r < length p.keys → IsFirstLaunch w (class_number classes r) (key_at p.keys r).launch
  key-first r below =
      subst (λ k. IsFirstLaunch w k (key_at p.keys r).launch) (sym (class-key r below))
      (first-launch (key_at p.keys r).kind (key_at p.keys r).launch (are.ranked.kinds r (key_at [] 0) below) (are.ranked.firsts r (key_at [] 0) below))

  stands : (i j : ℕ) → i < j → j < length p.keys → StandsBefore w (class_number classes i) (class_number classes j)
  stands i j before below = record {
    first = (key_at p.keys i).launch;
    first_is = key-first i (omega (arith, before, below));
    second = (key_at p.keys j).launch;
    second_is = key-first j below;
    before = in_order (by_test (key_at p.keys i).launch (key_at p.keys j).launch
        (steps_before (class_number p.table.kinds (key_at p.keys i).kind).exceptions (class_number p.table.kinds (key_at p.keys j).kind).exceptions)
        (are.ranked.rising i j (key_at [] 0) before below));
  }
    where
      in_order : ((key_at p.keys i).launch < (key_at p.keys j).launch) ⊎ (((key_at p.keys i).launch ≡ (key_at p.keys j).launch)
          × (steps_before (class_number p.table.kinds (key_at p.keys i).kind).exceptions (class_number p.table.kinds (key_at p.keys j).kind).exceptions ≡ true))
          → ((key_at p.keys i).launch < (key_at p.keys j).launch) ⊎ (((key_at p.keys i).launch ≡ (key_at p.keys j).launch)
          × (steps_before (class_number classes i).exceptions (class_number classes j).exceptions ≡ true))
      in_order (inl less) = inl less
      in_order (inr both) = inr (
        both.0,
        ap (λ k. steps_before k.exceptions (class_number classes j).exceptions) (class-key i (omega (arith, before, below)))
            ∙ (ap (λ k. steps_before (class_number p.table.kinds (key_at p.keys i).kind).exceptions k.exceptions) (class-key j below) ∙ both.1),
      )

  at-default : (r : ℕ) (d : Class) → r < length classes → class_number classes r ≡ get_or classes r d
  at-default r d below = get_or_default classes r (class_number [] 0) d below

  pub AreClasses-of : AreClasses w classes
  AreClasses-of = record {
    rising = λ i j d before below.
        let last : j < length p.keys = omega (arith, below, length-classes) in
        subst (λ k. StandsBefore w k (get_or classes j d)) (at-default i d (omega (arith, before, below)))
        (subst (StandsBefore w (class_number classes i)) (at-default j d below) (stands i j before last));
    live = λ r d below.
        let key : r < length p.keys = omega (arith, below, length-classes) in
        let has = are.ranked.firsts r (key_at [] 0) key in
        subst (IsLive w) (at-default r d below)
        (subst (IsLive w) (sym (class-key r key))
        (subst (λ c. IsLive w (class_number p.table.kinds c)) has.alive.kind_is
        (pin_at p.table has.state, node-from_live w arcs has_arcs p.table are.explored p.live live_is rise apart has.state has.within has.alive.live_is)));
    complete = λ k node.
        let here = live-from_node w arcs has_arcs p.table are.explored p.live live_is rise node.0 k node.1 in
        placed here (rank_in p.ranks p.table here.state) refl;
  }
    where
      placed : {k : Class} {v : ℕ} (here : HasLive p.table p.live v k) (o : Option ℕ) → rank_in p.ranks p.table here.state ≡ o → Contains classes k
      placed here None none =
          absurd (live-ranked p.table.kinds p.table.states p.table.launches p.live p.keys p.ranks are.ranked here.state here.within (kind-below here.state here.within) here.alive none)
      placed {k} here (Some r) is =
          let rank = state-class here.state r here.within is in
          (r, rank.0, sym (at-default r k rank.0) ∙ (rank.1 ∙ here.class_is))

  -- equal classes have one rank
  pub one-rank : (b c : ℕ) → b < length classes → c < length classes → class_number classes b ≡ class_number classes c → b ≡ c
  one-rank b c first second same = one-place (StandsBefore w) (λ j k. j ≡ k) classes (StandsBefore-same w) AreClasses-of.rising b c (class_number [] 0) first second same (sym same)

  -- ---- nodes
  pub node-at : (x : Placed) → (i : ℕ) × (i < length p.table.states) × IsNodeOf p.table p.live p.ranks i x → (x.«class» < length classes) × IsNode w x.number (class_number classes x.«class»)
  node-at x has =
      let i = has.0 in
      let is = has.2 in
      let rank = state-class i x.«class» has.1 is.rank in (
        rank.0,
        subst (IsNode w x.number) (sym rank.1) (subst (λ v. IsNode w v (class_in p.table i)) is.pin
            (node-from_live w arcs has_arcs p.table are.explored p.live live_is rise apart i has.1 is.alive)),
      )

  pub node-found : (y : LayerNode) → IsLayerNode w classes y → Contains (map node_of p.nodes) y
  node-found y is =
      let here = live-from_node w arcs has_arcs p.table are.explored p.live live_is rise y.pin.0 (class_number classes y.«class».0) is.node in
      let there = are.nodes.complete here.state here.within here.alive in
      let rank = state-class here.state there.0.«class» here.within there.1.1.rank in
      let class_same : there.0.«class» ≡ y.«class».0 = one-rank there.0.«class» y.«class».0 rank.0 is.number (rank.1 ∙ here.class_is) in
      let pin_same : there.0.number ≡ y.pin.0 = sym there.1.1.pin ∙ here.pin in
      subst (Contains (map node_of p.nodes)) (rw (class_same, pin_same) refl) (Contains-map node_of p.nodes there.0 there.1.0)

  -- ---- items
  pub item-at : (x : Placed) → (e : ℕ) × (e < length p.table.edges) × IsItemOf p.table p.live p.ranks e x
      → (x.«class» < length classes) × IsItem w (record { 0 = x.number }) (class_number classes x.«class»)
  item-at x has =
      let e = has.0 in
      let is = has.2 in
      let edge = are.explored.states.edges e has.1 in
      let rank = state-class (from_in p.table e) x.«class» edge.from is.rank in (
        rank.0,
        subst (IsItem w (record { 0 = x.number })) (sym rank.1) (subst (λ a. IsItem w (record { 0 = a }) (class_in p.table (from_in p.table e))) is.arc
            (item-from_edge w arcs has_arcs p.table are.explored p.live live_is rise e has.1 is.alive)),
      )

  -- the class behind an item's arc
  pub item-behind : (x : Placed) → (e : ℕ) × (e < length p.table.edges) × IsItemOf p.table p.live p.ranks e x
      → class_number classes x.with ≡ class_at w.all (class_number classes x.«class») (arc_at w.arcs x.number).to
  item-behind x has =
      let e = has.0 in
      let is = has.2 in
      let edge = are.explored.states.edges e has.1 in
      let rank = state-class (from_in p.table e) x.«class» edge.from is.rank in
      let behind = state-class (to_in p.table e) x.with edge.to is.behind in
      let below : x.number < length arcs = subst (λ a. a < length arcs) is.arc edge.arc in
      let pin : pin_at p.table (to_in p.table e) ≡ (arc_at w.arcs x.number).to = sym edge.enters ∙ (sym (has_arcs.to (arc_in p.table e) edge.arc) ∙ ap (λ a. (arc_at w.arcs a).to) is.arc) in
      behind.1 ∙ (edge.goes ∙ (ap (λ v. class_at w.all (class_in p.table (from_in p.table e)) v) pin ∙ ap (λ k. class_at w.all k (arc_at w.arcs x.number).to) (sym rank.1)))

  pub item-found : (y : LayerItem) → IsLayerItem w classes y → Contains (map item_of p.items) y
  item-found y is =
      let here = edge-from_item w arcs has_arcs p.table are.explored p.live live_is rise y.arc (class_number classes y.«class».0) is.item in
      let there = are.items.complete here.edge here.within here.alive in
      let edge = are.explored.states.edges here.edge here.within in
      let rank = state-class (from_in p.table here.edge) there.0.«class» edge.from there.1.1.rank in
      let class_same : there.0.«class» ≡ y.«class».0 = one-rank there.0.«class» y.«class».0 rank.0 is.number (rank.1 ∙ here.class_is) in
      let arc_same : there.0.number ≡ y.arc.0 = sym there.1.1.arc ∙ here.arc in
      subst (Contains (map item_of p.items)) (rw (class_same, arc_same) refl) (Contains-map item_of p.items there.0 there.1.0)

  -- ---- what a place stands for
  pub Stands-placed : (n c v : ℕ) (k : Class) → n < length p.nodes → IsPlaced c v (placed_at p.nodes n) → class_number classes c ≡ k → Stands classes (map node_of p.nodes) n v k
  Stands-placed n c v k below placed class_is = record {
    number = omega (arith, below, length-map p.nodes node_of);
    node = node_of (placed_at p.nodes n);
    node_is = get_or-map node_of p.nodes n (placed_at [] 0) (node_of (placed_at p.nodes n)) below;
    pin_is = placed.1;
    class_is = ap (λ b. class_number classes b) placed.0 ∙ class_is;
  }

  pub placed-Stands : (n v : ℕ) (k : Class) → Stands classes (map node_of p.nodes) n v k
      → (n < length p.nodes) × (((placed_at p.nodes n).number ≡ v) × (class_number classes (placed_at p.nodes n).«class» ≡ k))
  placed-Stands n v k is =
      let below : n < length p.nodes = omega (arith, is.number, length-map p.nodes node_of) in
      let node : node_of (placed_at p.nodes n) ≡ is.node = sym (get_or-map node_of p.nodes n (placed_at [] 0) is.node below) ∙ is.node_is in
      (below, (ap (λ (x : LayerNode). x.pin.0) node ∙ is.pin_is, ap (λ (x : LayerNode). class_number classes x.«class».0) node ∙ is.class_is))
