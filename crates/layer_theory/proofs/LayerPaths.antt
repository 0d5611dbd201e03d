-- The paths of a layered problem and the constrained paths of the design correspond, one for one.
use Rattle.std.specs.Prelude.{◌≡◌, ℕ, ◌<◌, nat_lt, ℤ, ◌-ℤ◌, true, List, [], ◌∷◌, map, length, drop, All, AllPairs, Some, slice_index_or}
use Rattle.std.proofs.Common.{refl, sym, ◌∙◌, ap, subst, arith}
use Rattle.std.proofs.lemmas.List.{get_or_default}
use Rattle.bud_base.specs.Paths.{Path, IsPath, Joins, item_at, start_at, end_at, room, sum_along, least_of}
use Rattle.bud_base.specs.declared.ids.ArcId.{ArcId}
use Rattle.bud_base.specs.declared.ids.ItemId.{ItemId}
use Rattle.bud_base.specs.declared.problems.Start.{Start}
use Rattle.bud_base.specs.declared.problems.End.{End}
use Rattle.bud_design.specs.Arcs.{arc_at}
use Rattle.bud_design.specs.Correspondences.{arc_of_item, StandsFor, Correspond}
use Rattle.bud_design.specs.Exceptions.{class_at, class_requirement}
use Rattle.bud_design.specs.Layers.{IsNode, class_behind, class_number, walk_of, BeginsAt, EndsAt, Stands, IsLayering}
use Rattle.bud_design.specs.Reaching.{pin_behind, Joined, along, IsReached, LeadsOn}
use Rattle.bud_design.specs.TimingPaths.{View, TimingPath, IsConstrained, path_start, last_pin, least_asked, sum_over, least_delay}
use Rattle.bud_design.specs.declared.layers.Class.{Class}
use Rattle.bud_design.specs.declared.layers.Layered.{Layered}
use Rattle.bud_design.specs.declared.policies.Policy.{Policy}
use Rattle.bud_design.proofs.ReachingLaws.{LeadsOn-before, LeadsOn-ends, LeadsOn-arc, IsReached-arc, IsReached-begins}
use Rattle.bud_design.proofs.NodeLaws as nodes
use Rattle.layer_theory.proofs.LayerPlaces as places

nil-cons : {A : Type 0} (x : A) (xs : List A) → [] ≡ x ∷ xs → ⊥
nil-cons {A} x xs e = absurd (omega (arith, ap (λ (zs : List A). length zs) e))

module _ (w : View) (policy : Policy) (layered : Layered) (layering : IsLayering w policy layered) (rise : AllPairs (λ e f. nat_lt e.number f.number ≡ true) w.all.exceptions)
    (apart : All (λ l. All (λ x. l.pin.0 ≡ x.pin.0 → ⊥) w.all.captures) w.all.launches) where
  abbrev pub arcs_of : List ItemId → List ArcId
  arcs_of is = map (arc_of_item layered.items) is

  abbrev pub StandsAt : ℕ → ℕ → Class → Type 0
  StandsAt n v k = Stands layered.classes layered.nodes n v k

  -- items that join up walk along their arcs
  pub items-walk : (is : List ItemId) (a b u : ℕ) (k : Class) → Joins layered.problem.items a is b → StandsAt a u k
      → (v : ℕ) × (Joined (walk_of w) u (arcs_of is) v × StandsAt b v (along (walk_of w) k (map (pin_behind (walk_of w)) (arcs_of is))))
  items-walk [] a b u k joins stands = (u, (refl, subst (λ n. StandsAt n u k) joins stands))
  items-walk (i ∷ is) a b u k joins stands =
      let item = places.item-stands w policy layered layering i joins.0 in
      let is_item = places.item-is w policy layered layering i joins.0 in
      let x = places.layer_item w policy layered layering i in
      let split = nodes.IsItemSplit-from_item w rise (λ n. Unit {0}) x.arc (class_number layered.classes x.«class».0) is_item.item tt in
      let same = places.StandsAt-one_state w policy layered layering a (arc_at w.arcs x.arc.0).from u (class_number layered.classes x.«class».0) k
      (subst (λ n. StandsAt n (arc_at w.arcs x.arc.0).from (class_number layered.classes x.«class».0)) joins.1 item.from) stands in
      let rest = items-walk is (item_at layered.problem.items i.0).to.0 b (arc_at w.arcs x.arc.0).to (class_at w.all k (arc_at w.arcs x.arc.0).to) joins.2
      (subst (λ j. StandsAt (item_at layered.problem.items i.0).to.0 (arc_at w.arcs x.arc.0).to (class_at w.all j (arc_at w.arcs x.arc.0).to)) same.1 item.to) in
      (rest.0, (((split.below, split.inside), same.0, rest.1.0), rest.1.1))

  -- ---- back: a problem path gives a constrained path of its room
  pub back : (p : Path) → IsPath layered.problem p → (path : TimingPath) × (StandsFor w layered p path × IsConstrained w path (room layered.problem p))
  back p is_path =
      let start = layering.starts.sound p.start (start_at [] 0) is_path.start in
      let end = layering.ends.sound p.end (end_at [] 0) is_path.end in
      let path : TimingPath = record { launch = start.launch; arcs = arcs_of p.items } in
      let pin = (path_start w path).pin.0 in
      let walk = items-walk p.items (start_at layered.problem.starts p.start).node.0 (end_at layered.problem.ends p.end).node.0 pin (class_behind w path []) is_path.joined start.node in
      let same = places.StandsAt-one_state w policy layered layering (end_at layered.problem.ends p.end).node.0 end.pin walk.0 end.«class»
      (along (walk_of w) (class_behind w path []) (map (pin_behind (walk_of w)) (arcs_of p.items))) end.node walk.1.1 in
      let class_same = same.1 ∙ nodes.class_behind-along w rise path [] (arcs_of p.items) in
      let asks = subst (λ k. least_asked w.all.captures walk.0 (class_requirement w.all k) ≡ Some (end_at layered.problem.ends p.end).require) class_same
      (subst (λ v. least_asked w.all.captures v (class_requirement w.all end.«class») ≡ Some (end_at layered.problem.ends p.end).require) same.0 end.require) in
      let ends : EndsAt w walk.0 (class_behind w path (arcs_of p.items)) = ((end_at layered.problem.ends p.end).require, asks) in
      let begins : BeginsAt w (λ n. Unit {0}) pin (class_behind w path []) = record { launch = start.launch; number = start.number; from = tt; pin_is = refl; class_is = refl } in
      let constrained = nodes.constrained-from w rise start.launch (arcs_of p.items) walk.0 start.number (some (arcs_of p.items) pin walk.0 (class_behind w path []) (class_behind w path (arcs_of p.items)) begins ends walk.1.0) walk.1.0 ends in (
        path,
        (
          record { launch = start.number; start = start.node; arcs = refl },
          subst (λ z. IsConstrained w path ((end_at layered.problem.ends p.end).require -ℤ z)) (sym start.offset) constrained,
        ),
      )
    where
      some : (xs : List ArcId) (u v : ℕ) (j k : Class) → BeginsAt w (λ n. Unit {0}) u j → EndsAt w v k → Joined (walk_of w) u xs v → 0 < length xs
      some [] u v j k begins ends joined = absurd (nodes.never_ends w rise apart (λ n. Unit {0}) v j k (subst (λ z. BeginsAt w (λ n. Unit {0}) z j) joined begins) ends)
      some (x ∷ xs) u v j k begins ends joined = omega arith

  -- ---- onto: each constrained path has a problem path
  -- the arcs of a walk between a state that is reached and one that leads on are those of items
  pub walk-items : (xs : List ArcId) (a u v : ℕ) (k : Class) → IsReached (walk_of w) (BeginsAt w (λ n. Unit {0})) u k → Joined (walk_of w) u xs v
      → LeadsOn (walk_of w) (EndsAt w) v (along (walk_of w) k (map (pin_behind (walk_of w)) xs)) → StandsAt a u k
      → (is : List ItemId) × ((b : ℕ) × (Joins layered.problem.items a is b × (StandsAt b v (along (walk_of w) k (map (pin_behind (walk_of w)) xs)) × (xs ≡ arcs_of is))))
  walk-items [] a u v k reached joined onward stands = ([], (a, (refl, (subst (λ z. StandsAt a z k) joined stands, refl))))
  walk-items (x ∷ xs) a u v k reached joined onward stands =
      let to = (arc_at w.arcs x.0).to in
      let from_reached = subst (λ z. IsReached (walk_of w) (BeginsAt w (λ n. Unit {0})) z k) (sym joined.1) reached in
      let leads : LeadsOn (walk_of w) (EndsAt w) to (class_at w.all k to) = LeadsOn-before (walk_of w) (EndsAt w) to (class_at w.all k to) xs v joined.2 onward in
      let item = nodes.IsItem-from_split w rise (λ n. Unit {0}) x k (record { below = joined.0.0; inside = joined.0.1; reached = from_reached; leads = leads }) in
      let node = nodes.IsNode-from_split w rise apart (λ n. Unit {0}) (arc_at w.arcs x.0).from k
      (record { reached = from_reached; leads = LeadsOn-arc (walk_of w) (EndsAt w) (arc_at w.arcs x.0).from k (record { arc = x; uses = joined.0; from = refl; leads = leads }) }) in
      let placed = places.item-placed w policy layered layering x k item.0 node.0 in
      let i = placed.0 in
      let stands_item = places.item-stands w policy layered layering i placed.1.0 in
      let from_here = subst (λ j. StandsAt (item_at layered.problem.items i.0).from.0 (arc_at w.arcs x.0).from j) placed.1.1.1
      (subst (λ y. StandsAt (item_at layered.problem.items i.0).from.0 (arc_at w.arcs y.0).from (class_number layered.classes (places.layer_item w policy layered layering i).«class».0)) placed.1.1.0 stands_item.from) in
      let to_here = subst (λ j. StandsAt (item_at layered.problem.items i.0).to.0 to (class_at w.all j to)) placed.1.1.1
      (subst (λ y. StandsAt (item_at layered.problem.items i.0).to.0 (arc_at w.arcs y.0).to (class_at w.all (class_number layered.classes (places.layer_item w policy layered layering i).«class».0) (arc_at w.arcs y.0).to)) placed.1.1.0 stands_item.to) in
      let same = places.StandsAt-one_number w policy layered layering (item_at layered.problem.items i.0).from.0 a u k
      (subst (λ z. StandsAt (item_at layered.problem.items i.0).from.0 z k) joined.1 from_here) stands in
      let rest = walk-items xs (item_at layered.problem.items i.0).to.0 to v (class_at w.all k to)
      (IsReached-arc (walk_of w) (BeginsAt w (λ n. Unit {0})) to (class_at w.all k to) (record { arc = x; before = k; uses = joined.0; to = refl; reached = from_reached; goes = refl }))
      joined.2 onward to_here in
      (i ∷ rest.0, (rest.1.0, ((placed.1.0, same, rest.1.1.0), (rest.1.1.1.0, more x i xs rest.0 (sym placed.1.1.0) rest.1.1.1.1))))
    where
      more : (x : ArcId) (i : ItemId) (xs : List ArcId) (is : List ItemId) → x ≡ arc_of_item layered.items i → xs ≡ arcs_of is → x ∷ xs ≡ arcs_of (i ∷ is)
      more x i xs is here rest = rw (here, rest) refl

  onto : (path : TimingPath) (r : ℤ) → IsConstrained w path r → (p : Path) × (IsPath layered.problem p × StandsFor w layered p path × (room layered.problem p ≡ r))
  onto path r constrained =
      let l = path_start w path in
      let pin = l.pin.0 in
      let last = last_pin w.arcs pin path.arcs in
      let joined = nodes.Joined-from_constrained w rise path r constrained in
      let ends = nodes.EndsAt-from_constrained w rise path r constrained in
      let ends_along = subst (EndsAt w last) (sym (nodes.class_behind-along w rise path [] path.arcs)) ends in
      let begins : BeginsAt w (λ n. Unit {0}) pin (class_behind w path []) = record { launch = path.launch; number = constrained.is_path.launch; from = tt; pin_is = refl; class_is = refl } in
      let reached = IsReached-begins (walk_of w) (BeginsAt w (λ n. Unit {0})) pin (class_behind w path []) begins in
      let node : IsNode w pin (class_behind w path []) = record { path = path; room = r; constrained = constrained; front = []; rest = path.arcs; parts = refl; pin_is = refl; class_is = refl } in
      let first = places.node-placed w policy layered layering pin (class_behind w path []) node in
      let walk = walk-items path.arcs first.0 pin last (class_behind w path []) reached joined (LeadsOn-ends (walk_of w) (EndsAt w) last (along (walk_of w) (class_behind w path []) (map (pin_behind (walk_of w)) path.arcs)) ends_along) first.1 in
      let start : Start = record { node = record { 0 = first.0 }; offset = l.offset } in
      let start_there = layering.starts.complete start (record { launch = path.launch; number = constrained.is_path.launch; node = first.1; offset = refl }) in
      let end : End = record { node = record { 0 = walk.1.0 }; require = ends.0 } in
      let end_there = layering.ends.complete end
      (record {
        pin = last;
        «class» = along (walk_of w) (class_behind w path []) (map (pin_behind (walk_of w)) path.arcs);
        node = walk.1.1.1.0;
        require = subst (λ k. least_asked w.all.captures last (class_requirement w.all k) ≡ Some ends.0) (sym (nodes.class_behind-along w rise path [] path.arcs)) ends.1;
      }) in
      let start_read = get_or_default layered.problem.starts start_there.0 (start_at [] 0) start start_there.1 ∙ start_there.2 in
      let end_read = get_or_default layered.problem.ends end_there.0 (end_at [] 0) end end_there.1 ∙ end_there.2 in (
        record { start = start_there.0; items = walk.0; end = end_there.0 },
        (
          record {
            start = start_there.1;
            end = end_there.1;
            joined = rw (start_read, end_read) walk.1.1.0;
          },
          record { launch = constrained.is_path.launch; start = subst (λ (s : Start). StandsAt s.node.0 pin (class_behind w path [])) (sym start_read) first.1; arcs = walk.1.1.1.1 },
          rw (start_read, end_read) (nodes.asks-room w rise path r constrained ends),
        ),
      )

  -- ---- one: a constrained path has one problem path
  head-same : {A : Type 0} {x y : A} {xs ys : List A} → x ∷ xs ≡ y ∷ ys → x ≡ y
  head-same {A} {x} {y} {xs} {ys} e = ap (λ zs. slice_index_or zs 0 x) e

  tail-same : {A : Type 0} {x y : A} {xs ys : List A} → x ∷ xs ≡ y ∷ ys → xs ≡ ys
  tail-same {A} {x} {y} {xs} {ys} e = ap (λ zs. drop 1 zs) e

  -- items from one node are equal where their arcs are
  items-one : (is js : List ItemId) (a b c : ℕ) → Joins layered.problem.items a is b → Joins layered.problem.items a js c → arcs_of is ≡ arcs_of js → (is ≡ js) × (b ≡ c)
  items-one [] [] a b c first second same = (refl, sym first ∙ second)
  items-one [] (j ∷ js) a b c first second same = absurd (nil-cons (arc_of_item layered.items j) (arcs_of js) same)
  items-one (i ∷ is) [] a b c first second same = absurd (nil-cons (arc_of_item layered.items i) (arcs_of is) (sym same))
  items-one (i ∷ is) (j ∷ js) a b c first second same =
      let state = places.StandsAt-one_state w policy layered layering a
      (arc_at w.arcs (arc_of_item layered.items i).0).from (arc_at w.arcs (arc_of_item layered.items j).0).from
      (class_number layered.classes (places.layer_item w policy layered layering i).«class».0) (class_number layered.classes (places.layer_item w policy layered layering j).«class».0)
      (subst (λ n. StandsAt n (arc_at w.arcs (arc_of_item layered.items i).0).from (class_number layered.classes (places.layer_item w policy layered layering i).«class».0)) first.1 (places.item-stands w policy layered layering i first.0).from)
      (subst (λ n. StandsAt n (arc_at w.arcs (arc_of_item layered.items j).0).from (class_number layered.classes (places.layer_item w policy layered layering j).«class».0)) second.1 (places.item-stands w policy layered layering j second.0).from) in
      let number = places.item-one w policy layered layering i j first.0 second.0 (head-same same) state.1 in
      let rest = items-one is js (item_at layered.problem.items i.0).to.0 b c first.2
      (subst (λ n. Joins layered.problem.items (item_at layered.problem.items n).to.0 js c) (sym number) second.2) (tail-same same) in
      (both i j is js number rest.0, rest.1)
    where
      both : (i j : ItemId) (is js : List ItemId) → i.0 ≡ j.0 → is ≡ js → i ∷ is ≡ j ∷ js
      both i j is js number rest = rw rest (ap (λ n. record { 0 = n } ∷ js) number)

  pub start-one : (s t : ℕ) → s < length layered.problem.starts → t < length layered.problem.starts
      → (start_at layered.problem.starts s).node.0 ≡ (start_at layered.problem.starts t).node.0 → s ≡ t
  start-one s t first second same =
      places.one-place (λ (x y : Start). nat_lt x.node.0 y.node.0 ≡ true) (λ (x y : Start). x.node.0 ≡ y.node.0) layered.problem.starts
      (λ x y e less. places.never_below x.node.0 y.node.0 e less) layering.starts.rising s t (start_at [] 0) first second same (sym same)

  pub end-one : (e f : ℕ) → e < length layered.problem.ends → f < length layered.problem.ends
      → (end_at layered.problem.ends e).node.0 ≡ (end_at layered.problem.ends f).node.0 → e ≡ f
  end-one e f first second same =
      places.one-place (λ (x y : End). nat_lt x.node.0 y.node.0 ≡ true) (λ (x y : End). x.node.0 ≡ y.node.0) layered.problem.ends
      (λ x y same' less. places.never_below x.node.0 y.node.0 same' less) layering.ends.rising e f (end_at [] 0) first second same (sym same)

  one : (p q : Path) (path : TimingPath) → IsPath layered.problem p → IsPath layered.problem q → StandsFor w layered p path → StandsFor w layered q path → p ≡ q
  one p q path is_p is_q stands_p stands_q =
      let node = places.StandsAt-one_number w policy layered layering (start_at layered.problem.starts p.start).node.0 (start_at layered.problem.starts q.start).node.0
      (path_start w path).pin.0 (class_behind w path []) stands_p.start stands_q.start in
      let items = items-one p.items q.items (start_at layered.problem.starts p.start).node.0 (end_at layered.problem.ends p.end).node.0 (end_at layered.problem.ends q.end).node.0 is_p.joined
      (subst (λ n. Joins layered.problem.items n q.items (end_at layered.problem.ends q.end).node.0) (sym node) is_q.joined) (sym stands_p.arcs ∙ stands_q.arcs) in
      path-same p q (start-one p.start q.start is_p.start is_q.start node) items.0 (end-one p.end q.end is_p.end is_q.end items.1)
    where
      path-same : (p q : Path) → p.start ≡ q.start → p.items ≡ q.items → p.end ≡ q.end → p ≡ q
      path-same p q start items end =
          ap (λ n. record { start = n; items = p.items; end = p.end }) start
          ∙ (ap (λ is. record { start = q.start; items = is; end = p.end }) items ∙ ap (λ n. record { start = q.start; items = q.items; end = n }) end)

  -- ---- sums at least delays
  sums-along : (is : List ItemId) (a b : ℕ) → Joins layered.problem.items a is b → sum_along (least_of layered.problem) is ≡ sum_over (least_delay w.arcs) (arcs_of is)
  sums-along [] a b joins = refl
  sums-along (i ∷ is) a b joins =
      rw ((places.item-stands w policy layered layering i joins.0).least, sums-along is (item_at layered.problem.items i.0).to.0 b joins.2) refl

  -- the problem's paths correspond to the constrained paths
  pub Correspond-from_layering : Correspond w layered
  Correspond-from_layering = record {
    back = back;
    onto = onto;
    one = one;
    sums = λ p path is_path stands.
        sums-along p.items (start_at layered.problem.starts p.start).node.0 (end_at layered.problem.ends p.end).node.0 is_path.joined
        ∙ ap (sum_over (least_delay w.arcs)) (sym stands.arcs);
  }
