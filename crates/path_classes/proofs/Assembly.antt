-- Parts make a layering.
use Rattle.std.proofs.Common.{◌≡◌, ℕ, ◌<◌, ◌≤◌, ◌==◌, ◌&&◌, ◌||◌, nat_lt, Bool, true, false, List, [], ◌∷◌, length, get_or, map, Option, Some, refl, sym, ◌∙◌, ap, subst, arith}
use Rattle.std.specs.Prelude.{All, AllPairs, Contains, ℤ, pos, ◌+ℤ◌, filter_map, reverse}
use Rattle.std.specs.List.{AllZip}
use Rattle.std.proofs.lemmas.Int.{ints}
use Rattle.std.proofs.lemmas.List.{get_or_default, get_or-map, length-map}
use Rattle.std.proofs.lemmas.List.Elements.{All-head, All-tail}
use Rattle.bud_base.specs.Paths.{start_at, end_at, item_at}
use Rattle.bud_base.specs.declared.problems.Item.{Item}
use Rattle.bud_base.specs.declared.problems.Start.{Start}
use Rattle.bud_base.specs.declared.problems.End.{End}
use Rattle.bud_design.specs.Arcs.{arc_at}
use Rattle.bud_design.specs.Clocks.{clock_at}
use Rattle.bud_design.specs.Exceptions.{class_of, class_at, class_requirement}
use Rattle.bud_design.specs.Layers.{class_number, node_before, item_before, IsLayerNode, IsLayerItem, IsProblemItem, IsProblemStart, IsProblemEnd, IsLayering, Stands}
use Rattle.bud_design.specs.Policies.{share, version_of, first_share, share_of}
use Rattle.bud_design.specs.TimingPaths.{View, launch_at, least_asked}
use Rattle.bud_design.specs.declared.policies.Policy.{Policy}
use Rattle.bud_design.specs.declared.layers.LayerNode.{LayerNode}
use Rattle.bud_design.specs.declared.layers.LayerItem.{LayerItem}
use Rattle.path_states.specs.Tables.{state_at, class_in, from_in}
use Rattle.state_laws.specs.Views.{HasArcs}
use Rattle.state_numbers.specs.Placed.{placed_at, placed_before, IsPlaced}
use Rattle.state_numbers.specs.declared.placed.Placed.{Placed}
use Rattle.path_classes.specs.Placing.{classes_of, node_of, item_of, start_of, rank_in, IsNodeOf, IsItemOf, IsItemAt, BeginsAtPlace, asked_at}
use Rattle.path_classes.specs.Layering.{Parts, AreParts, layered_of}
use Rattle.path_classes.proofs.PartFacts as facts

AllPairs-map : {X Y : Type 0} (R : Y → Y → Type 0) (S : X → X → Type 0) (f : X → Y) (xs : List X) → ((x y : X) → S x y → R (f x) (f y)) → AllPairs S xs → AllPairs R (map f xs)
AllPairs-map {X} {Y} R S f [] into pairs i j d before below = absurd (omega (arith, below))
AllPairs-map {X} {Y} R S f (x ∷ xs) into pairs i j d before below =
    let within : j < length (x ∷ xs) = omega (arith, below, length-map (x ∷ xs) f) in
    subst (λ a. R a (get_or (map f (x ∷ xs)) j d)) (sym (get_or-map f (x ∷ xs) i x d (omega (arith, before, within))))
    (subst (R (f (get_or (x ∷ xs) i x))) (sym (get_or-map f (x ∷ xs) j x d within)) (into (get_or (x ∷ xs) i x) (get_or (x ∷ xs) j x) (pairs i j x before within)))

All-mapped : {X Y : Type 0} (P : Y → Type 0) (S : X → Type 0) (f : X → Y) (xs : List X) → ((x : X) → S x → P (f x)) → All S xs → All P (map f xs)
All-mapped P S f [] into all k d below = absurd (omega (arith, below))
All-mapped P S f (x ∷ xs) into all k d below =
    let within : k < length (x ∷ xs) = omega (arith, below, length-map (x ∷ xs) f) in
    subst P (sym (get_or-map f (x ∷ xs) k x d within)) (into (get_or (x ∷ xs) k x) (all k x within))

zip-to : {X Y Z : Type 0} (P : X → Type 0) (R : X → Z → Type 0) (Q : Y → Z → Type 0) (f : X → Y) (xs : List X) (zs : List Z) → All P xs → ((x : X) (z : Z) → P x → R x z → Q (f x) z) → AllZip R xs zs
    → AllZip Q (map f xs) zs
zip-to P R Q f [] [] all into zip = zip
zip-to P R Q f [] (z ∷ zs) all into zip = zip
zip-to P R Q f (x ∷ xs) [] all into zip = zip
zip-to P R Q f (x ∷ xs) (z ∷ zs) all into zip = (into x z (All-head P x xs all) zip.0, zip-to P R Q f xs zs (All-tail P x xs all) into zip.1)

flat-before : (a b c d : ℕ) → a ≡ 0 → b ≡ 0 → (nat_lt a b || (a == b && nat_lt c d)) ≡ true → nat_lt c d ≡ true
flat-before a b c d first second is = grind (arith, first, second, is)

module _ (w : View) (policy : Policy) (none : policy.lines ≡ []) (arcs : List Item) (has_arcs : HasArcs w arcs) (rise : AllPairs (λ e f. nat_lt e.number f.number ≡ true) w.all.exceptions)
    (apart : All (λ l. All (λ x. l.pin.0 ≡ x.pin.0 → ⊥) w.all.captures) w.all.launches) (p : Parts) (are : AreParts arcs w.all p) where
  problem-item : (x : Placed) (item : Item) → (e : ℕ) × (e < length p.table.edges) × IsItemOf p.table p.live p.ranks e x → IsItemAt arcs p.nodes x item
      → IsProblemItem w policy (layered_of w.all (version_of policy) p) (item_of x) item
  problem-item x item has at_place =
      let edge = are.explored.states.edges has.0 has.1 in
      let below : x.number < length arcs = subst (λ a. a < length arcs) has.2.arc edge.arc in
      let c = clock_at w.all.clocks (class_number (classes_of p.table.kinds p.keys) x.«class»).clock in
      let given : share w.design w.arcs policy.lines x.number c ≡ record { extra = pos 0; weight = 0 } = ap (λ lines. share w.design w.arcs lines x.number c) none in
      record {
        from = facts.Stands-placed w arcs has_arcs rise apart p are item.from.0 x.«class» (arc_at w.arcs x.number).from (class_number (classes_of p.table.kinds p.keys) x.«class») at_place.from_within
            (at_place.from_is.0, at_place.from_is.1 ∙ sym (has_arcs.from x.number below)) refl;
        to = facts.Stands-placed w arcs has_arcs rise apart p are item.to.0 x.with (arc_at w.arcs x.number).to
            (class_at w.all (class_number (classes_of p.table.kinds p.keys) x.«class») (arc_at w.arcs x.number).to) at_place.to_within
            (at_place.to_is.0, at_place.to_is.1 ∙ sym (has_arcs.to x.number below)) (facts.item-behind w arcs has_arcs rise apart p are x has);
        least = at_place.least ∙ sym (has_arcs.least x.number below);
        greatest = at_place.greatest ∙ (sym at_place.least ∙ (plus_none item.least ∙ ap (λ s. item.least +ℤ s.extra) (sym given)));
        weight = at_place.weight ∙ ap (λ s. s.weight) (sym given);
      }
    where
      plus_none : (z : ℤ) → z ≡ z +ℤ pos 0
      plus_none z = omega (arith, ints)

  start-sound : (x : Placed) → (x.with < length w.all.launches) × BeginsAtPlace w.all p.table.kinds p.ranks p.nodes (launch_at w.all.launches x.with) x.number
      → IsProblemStart w (layered_of w.all (version_of policy) p) (start_of w.all.launches x)
  start-sound x (within, begins) =
      let rank = facts.ranked-class w arcs has_arcs rise apart p are begins.kind begins.rank begins.within begins.ranked in
      record {
        launch = x.with;
        number = within;
        node = facts.Stands-placed w arcs has_arcs rise apart p are x.number begins.rank (launch_at w.all.launches x.with).pin.0
            (class_of w.all (launch_at w.all.launches x.with) ((launch_at w.all.launches x.with).pin.0 ∷ [])) begins.node begins.placed (rank.1 ∙ begins.class_is);
        offset = refl;
      }

  start-found : (s : Start) → IsProblemStart w (layered_of w.all (version_of policy) p) s → Contains (map (start_of w.all.launches) p.starts) s
  start-found s is =
      let l = launch_at w.all.launches is.launch in
      let placed = facts.placed-Stands w arcs has_arcs rise apart p are s.node.0 l.pin.0 (class_of w.all l (l.pin.0 ∷ [])) is.node in
      let x = placed_at p.nodes s.node.0 in
      let node = are.nodes.sound s.node.0 (placed_at [] 0) placed.0 in
      let rank = facts.state-class w arcs has_arcs rise apart p are node.0 x.«class» node.1 node.2.rank in
      let begins : BeginsAtPlace w.all p.table.kinds p.ranks p.nodes l s.node.0 = record {
        kind = (state_at p.table.states node.0).kind;
        within = are.explored.states.lists.kinds node.0 (state_at [] 0) node.1;
        class_is = sym rank.1 ∙ placed.1.1;
        rank = x.«class»;
        ranked = node.2.rank;
        node = placed.0;
        placed = (refl, placed.1.0);
      } in
      let there = are.starts.complete is.launch is.number s.node.0 begins in
      let same : start_of w.all.launches (record { «class» = 0; number = s.node.0; with = is.launch }) ≡ s = rw (sym is.offset) refl in
      subst (Contains (map (start_of w.all.launches) p.starts)) same
      (facts.Contains-map (start_of w.all.launches) p.starts (record { «class» = 0; number = s.node.0; with = is.launch }) there)

  end-sound : (e : End) → (e.node.0 < length p.nodes) × (asked_at w.all (classes_of p.table.kinds p.keys) p.nodes e.node.0 ≡ Some e.require)
      → IsProblemEnd w (layered_of w.all (version_of policy) p) e
  end-sound e (within, asks) = record {
    pin = (placed_at p.nodes e.node.0).number;
    «class» = class_number (classes_of p.table.kinds p.keys) (placed_at p.nodes e.node.0).«class»;
    node = facts.Stands-placed w arcs has_arcs rise apart p are e.node.0 (placed_at p.nodes e.node.0).«class» (placed_at p.nodes e.node.0).number
        (class_number (classes_of p.table.kinds p.keys) (placed_at p.nodes e.node.0).«class») within (refl, refl) refl;
    require = asks;
  }

  end-found : (e : End) → IsProblemEnd w (layered_of w.all (version_of policy) p) e → Contains p.ends e
  end-found e is =
      let placed = facts.placed-Stands w arcs has_arcs rise apart p are e.node.0 is.pin is.«class» is.node in
      are.ends.complete e.node.0 placed.0 e.require
      (ap (λ k. least_asked w.all.captures (placed_at p.nodes e.node.0).number (class_requirement w.all k)) placed.1.1
      ∙ (ap (λ v. least_asked w.all.captures v (class_requirement w.all is.«class»)) placed.1.0 ∙ is.require))

  pub IsLayering-of_parts : IsLayering w policy (layered_of w.all (version_of policy) p)
  IsLayering-of_parts = record {
    classes = facts.AreClasses-of w arcs has_arcs rise apart p are;
    nodes = record {
      rising = AllPairs-map (λ x y. node_before x y ≡ true) (λ x y. placed_before x y ≡ true) node_of p.nodes (λ x y before. before) are.nodes_rise;
      sound = All-mapped (IsLayerNode w (classes_of p.table.kinds p.keys)) (λ x. (i : ℕ) × (i < length p.table.states) × IsNodeOf p.table p.live p.ranks i x) node_of p.nodes
          (λ x has. let node = facts.node-at w arcs has_arcs rise apart p are x has in record { number = node.0; node = node.1 }) are.nodes.sound;
      complete = facts.node-found w arcs has_arcs rise apart p are;
    };
    items = record {
      rising = AllPairs-map (λ x y. item_before x y ≡ true) (λ x y. placed_before x y ≡ true) item_of p.items (λ x y before. before) are.items_rise;
      sound = All-mapped (IsLayerItem w (classes_of p.table.kinds p.keys)) (λ x. (e : ℕ) × (e < length p.table.edges) × IsItemOf p.table p.live p.ranks e x) item_of p.items
          (λ x has. let item = facts.item-at w arcs has_arcs rise apart p are x has in record { number = item.0; item = item.1 }) are.items.sound;
      complete = facts.item-found w arcs has_arcs rise apart p are;
    };
    node_count = sym (length-map p.nodes node_of);
    problem_items = zip-to (λ x. (e : ℕ) × (e < length p.table.edges) × IsItemOf p.table p.live p.ranks e x) (IsItemAt arcs p.nodes)
        (IsProblemItem w policy (layered_of w.all (version_of policy) p)) item_of p.items p.problem_items are.items.sound problem-item are.problem_items;
    starts = record {
      rising = AllPairs-map (λ s t. nat_lt s.node.0 t.node.0 ≡ true) (λ x y. nat_lt x.number y.number ≡ true) (start_of w.all.launches) p.starts (λ x y before. before)
          (λ i j d before below. flat-before (get_or p.starts i d).«class» (get_or p.starts j d).«class» (get_or p.starts i d).number (get_or p.starts j d).number
          (are.starts.flat i d (omega (arith, before, below))) (are.starts.flat j d below) (are.starts_rise i j d before below));
      sound = All-mapped (IsProblemStart w (layered_of w.all (version_of policy) p))
          (λ x. (x.with < length w.all.launches) × BeginsAtPlace w.all p.table.kinds p.ranks p.nodes (launch_at w.all.launches x.with) x.number) (start_of w.all.launches) p.starts start-sound
          (λ k d below. (are.starts.within k d below, are.starts.sound k d below));
      complete = start-found;
    };
    ends = record {
      rising = are.ends.rising;
      sound = λ k d below. end-sound (get_or p.ends k d) (are.ends.within k d below, are.ends.sound k d below);
      complete = end-found;
    };
    version = refl;
  }
