-- The text of a path of a layered problem is that of the constrained path that it stands for.
use Rattle.std.specs.Prelude.{◌≡◌, ℕ, suc, ◌<◌, nat_lt, ℤ, ◌+ℤ◌, true, List, [], ◌∷◌, ◌++◌, codes, map, length, All, AllPairs}
use Rattle.std.proofs.Common.{refl, sym, ◌∙◌, ap, subst, arith, append_assoc, true≢false}
use Rattle.std.proofs.lemmas.Int.{ints}
use Rattle.std.proofs.lemmas.List.{get_or_default, append-nil}
use Rattle.bud_base.specs.Paths.{Path, IsPath, Joins, item_at, start_at, end_at, room}
use Rattle.bud_base.specs.declared.ids.ArcId.{ArcId}
use Rattle.bud_base.specs.declared.ids.ItemId.{ItemId}
use Rattle.bud_base.specs.declared.problems.End.{End}
use Rattle.bud_base.specs.declared.problems.Start.{Start}
use Rattle.bud_design.specs.Arcs.{arc_at}
use Rattle.bud_design.specs.Correspondences.{arc_of_item, StandsFor}
use Rattle.bud_design.specs.Exceptions.{class_at}
use Rattle.bud_design.specs.Layers.{class_behind, class_number, Stands, IsLayering}
use Rattle.bud_design.specs.Orders.{launch_before, stands_before}
use Rattle.bud_design.specs.TimingPaths.{View, TimingPath, launch_at, path_start, last_pin}
use Rattle.bud_syntax.specs.declared.edges.Edge.{Edge}
use Rattle.bud_design.specs.declared.clocks.Launch.{Launch}
use Rattle.bud_design.proofs.StrictOrders.{launch_before-never}
use Rattle.bud_design.specs.declared.layers.Class.{Class}
use Rattle.bud_design.specs.declared.layers.LayerNode.{LayerNode}
use Rattle.bud_design.specs.declared.layers.Layered.{Layered}
use Rattle.bud_design.specs.declared.policies.Policy.{Policy}
use Rattle.bud_design.proofs.NodeLaws as nodes
use Rattle.layer_theory.proofs.LayerPlaces as places
use Rattle.budget_report.specs.DesignPaths.{node_at, pin_of, class_of_node, item_classes, path_classes, item_line, item_lines, arc_line, pin_line, start_line, end_line, slack_line, class_lines, layered_text}
use Rattle.budget_designs.specs.Slacks.{number_at, IsNumbered, AreNumbered, arc_lines, violated_text}

front-same : {X : Type 0} {x y : X} {xs ys : List X} → x ∷ xs ≡ y ∷ ys → x ≡ y
front-same e = cc

rest-same : {X : Type 0} {x y : X} {xs ys : List X} → x ∷ xs ≡ y ∷ ys → xs ≡ ys
rest-same e = cc

-- launches of one pin, clock and edge
abbrev SameLaunch : Launch → Launch → Type 0
SameLaunch l m = (l.pin.0 ≡ m.pin.0) × ((l.clock ≡ m.clock) × (l.edge ≡ m.edge))

launch-once : (l m : Launch) → SameLaunch l m → launch_before l m ≡ true → ⊥
launch-once l m same before =
    let pin = subst (λ (v : ℕ). stands_before v l.clock l.edge m.pin.0 m.clock m.edge ≡ true) same.0 before in
    let clock = subst (λ (k : ℕ). stands_before m.pin.0 k l.edge m.pin.0 m.clock m.edge ≡ true) same.1.0 pin in
    let e : stands_before m.pin.0 m.clock m.edge m.pin.0 m.clock m.edge ≡ true = subst (λ (z : Edge). stands_before m.pin.0 m.clock z m.pin.0 m.clock m.edge ≡ true) same.1.1 clock in
    true≢false (sym e ∙ launch_before-never m)

abbrev with_arcs : ℕ → List ArcId → TimingPath
with_arcs n xs = record { launch = n; arcs = xs }

module _ (w : View) (policy : Policy) (layered : Layered) (layering : IsLayering w policy layered) (rise : AllPairs (λ e f. nat_lt e.number f.number ≡ true) w.all.exceptions)
    (apart : All (λ l. All (λ x. l.pin.0 ≡ x.pin.0 → ⊥) w.all.captures) w.all.launches) where
  abbrev arcs_of : List ItemId → List ArcId
  arcs_of is = map (arc_of_item layered.items) is

  abbrev StandsAt : ℕ → ℕ → Class → Type 0
  StandsAt n v k = Stands layered.classes layered.nodes n v k

  -- ---- a node's pin and class
  node-read : (n v : ℕ) (k : Class) (stands : StandsAt n v k) → node_at layered.nodes n ≡ stands.node
  node-read n v k stands = get_or_default layered.nodes n (node_at [] 0) stands.node stands.number ∙ stands.node_is

  node-pin : (n v : ℕ) (k : Class) → StandsAt n v k → pin_of layered n ≡ v
  node-pin n v k stands = ap (λ (x : LayerNode). x.pin.0) (node-read n v k stands) ∙ stands.pin_is

  node-number : (n v : ℕ) (k : Class) → StandsAt n v k → IsNumbered layered.classes (class_of_node layered n) k
  node-number n v k stands =
      let same = ap (λ (x : LayerNode). x.«class».0) (node-read n v k stands) in
      let within = (layering.nodes.sound n (node_at [] 0) stands.number).number in
      record {
        within = within;
        class_is = ap (class_number layered.classes) same ∙ stands.class_is;
      }

  -- ---- along the items
  -- one item on
  next-stands : (path : TimingPath) (i : ItemId) (a u : ℕ) (front : List ArcId) → i.0 < length layered.problem.items → (item_at layered.problem.items i.0).from.0 ≡ a
      → StandsAt a u (class_behind w path front)
      → StandsAt (item_at layered.problem.items i.0).to.0 (arc_at w.arcs (arc_of_item layered.items i).0).to (class_behind w path (front ++ arc_of_item layered.items i ∷ []))
  next-stands path i a u front within from stands =
      let item = places.item-stands w policy layered layering i within in
      let x = places.layer_item w policy layered layering i in
      let k = class_number layered.classes x.«class».0 in
      let same = places.StandsAt-one_state w policy layered layering a (arc_at w.arcs x.arc.0).from u k (class_behind w path front)
      (subst (λ (n : ℕ). StandsAt n (arc_at w.arcs x.arc.0).from k) from item.from) stands in
      let behind = nodes.class_behind-along w rise path front (x.arc ∷ []) in
      subst (StandsAt (item_at layered.problem.items i.0).to.0 (arc_at w.arcs x.arc.0).to) behind
      (subst (λ (j : Class). StandsAt (item_at layered.problem.items i.0).to.0 (arc_at w.arcs x.arc.0).to (class_at w.all j (arc_at w.arcs x.arc.0).to)) same.1 item.to)

  moved : (path : TimingPath) (n v : ℕ) (front : List ArcId) (x : ArcId) (xs : List ArcId) → StandsAt n v (class_behind w path ((front ++ x ∷ []) ++ xs)) → StandsAt n v (class_behind w path (front ++ x ∷ xs))
  moved path n v front x xs stands = subst (λ (ys : List ArcId). StandsAt n v (class_behind w path ys)) (append_assoc front (x ∷ []) xs) stands

  -- the last node stands for the last pin
  end-stands : (path : TimingPath) (is : List ItemId) (a b u : ℕ) (front : List ArcId) → Joins layered.problem.items a is b → StandsAt a u (class_behind w path front)
      → StandsAt b (last_pin w.arcs u (arcs_of is)) (class_behind w path (front ++ arcs_of is))
  end-stands path [] a b u front joins stands =
      subst (λ (ys : List ArcId). StandsAt b u (class_behind w path ys)) (sym (append-nil front)) (subst (λ (n : ℕ). StandsAt n u (class_behind w path front)) joins stands)
  end-stands path (i ∷ is) a b u front joins stands =
      let x = arc_of_item layered.items i in
      moved path b (last_pin w.arcs (arc_at w.arcs x.0).to (arcs_of is)) front x (arcs_of is)
      (end-stands path is (item_at layered.problem.items i.0).to.0 b (arc_at w.arcs x.0).to (front ++ x ∷ []) joins.2 (next-stands path i a u front joins.0 joins.1 stands))

  -- the classes of the nodes are those of the path's fronts
  numbered-from : (path : TimingPath) (is : List ItemId) (a b u : ℕ) (front : List ArcId) → Joins layered.problem.items a is b → StandsAt a u (class_behind w path front)
      → (f r : List ArcId) → arcs_of is ≡ f ++ r → IsNumbered layered.classes (number_at (class_of_node layered a ∷ item_classes layered is) (length f)) (class_behind w path (front ++ f))
  numbered-from path is a b u front joins stands [] r parts =
      subst (λ (ys : List ArcId). IsNumbered layered.classes (class_of_node layered a) (class_behind w path ys)) (sym (append-nil front)) (node-number a u (class_behind w path front) stands)
  numbered-from path [] a b u front joins stands (x ∷ f) r parts = absurd (omega (arith, ap (λ (ys : List ArcId). length ys) parts))
  numbered-from path (i ∷ is) a b u front joins stands (x ∷ f) r parts =
      let y = arc_of_item layered.items i in
      let same : y ≡ x = front-same parts in
      let rest = numbered-from path is (item_at layered.problem.items i.0).to.0 b (arc_at w.arcs y.0).to (front ++ y ∷ []) joins.2 (next-stands path i a u front joins.0 joins.1 stands) f r (rest-same parts) in
      subst (λ (ys : List ArcId). IsNumbered layered.classes (number_at (class_of_node layered (item_at layered.problem.items i.0).to.0 ∷ item_classes layered is) (length f)) (class_behind w path ys))
      (append_assoc front (y ∷ []) f ∙ ap (λ (z : ArcId). front ++ z ∷ f) same) rest

  -- as many classes as nodes, the last one that of the last node
  count-numbers : (is : List ItemId) (a : ℕ) → length (class_of_node layered a ∷ item_classes layered is) ≡ suc (length (arcs_of is))
  count-numbers [] a = refl
  count-numbers (i ∷ is) a = ap (λ (n : ℕ). suc n) (count-numbers is (item_at layered.problem.items i.0).to.0)

  last-number : (is : List ItemId) (a b : ℕ) → Joins layered.problem.items a is b → number_at (class_of_node layered a ∷ item_classes layered is) (length (arcs_of is)) ≡ class_of_node layered b
  last-number [] a b joins = ap (class_of_node layered) joins
  last-number (i ∷ is) a b joins = last-number is (item_at layered.problem.items i.0).to.0 b joins.2

  -- ---- the lines
  line-same : (i : ItemId) → i.0 < length layered.problem.items
      → item_line w.design layered (item_at layered.problem.items i.0)
      ≡ arc_line w.design (arc_at w.arcs (arc_of_item layered.items i).0).from (arc_at w.arcs (arc_of_item layered.items i).0).to (arc_at w.arcs (arc_of_item layered.items i).0).least
  line-same i within =
      let item = places.item-stands w policy layered layering i within in
      let x = places.layer_item w policy layered layering i in
      let k = class_number layered.classes x.«class».0 in
      let arc = arc_at w.arcs x.arc.0 in
      let from = node-pin (item_at layered.problem.items i.0).from.0 arc.from k item.from in
      let to = node-pin (item_at layered.problem.items i.0).to.0 arc.to (class_at w.all k arc.to) item.to in
      ap (λ (v : ℕ). arc_line w.design v (pin_of layered (item_at layered.problem.items i.0).to.0) (item_at layered.problem.items i.0).least) from
      ∙ (ap (λ (v : ℕ). arc_line w.design arc.from v (item_at layered.problem.items i.0).least) to
      ∙ ap (λ (z : ℤ). arc_line w.design arc.from arc.to z) item.least)

  lines-same : (is : List ItemId) (a b : ℕ) → Joins layered.problem.items a is b → item_lines w.design layered is ≡ arc_lines w (arcs_of is)
  lines-same [] a b joins = refl
  lines-same (i ∷ is) a b joins =
      ap (λ (xs : List ℕ). xs ++ item_lines w.design layered is) (line-same i joins.0)
      ∙ ap (λ (xs : List ℕ). arc_line w.design (arc_at w.arcs (arc_of_item layered.items i).0).from (arc_at w.arcs (arc_of_item layered.items i).0).to (arc_at w.arcs (arc_of_item layered.items i).0).least ++ xs)
      (lines-same is (item_at layered.problem.items i.0).to.0 b joins.2)

  -- ---- a whole path
  module _ (p : Path) (is_path : IsPath layered.problem p) where
    abbrev start : Start
    start = start_at layered.problem.starts p.start

    abbrev end : End
    end = end_at layered.problem.ends p.end

    abbrev pub path_of : TimingPath
    path_of = record { launch = (layering.starts.sound p.start (start_at [] 0) is_path.start).launch; arcs = arcs_of p.items }

    start-stands : StandsAt start.node.0 (path_start w path_of).pin.0 (class_behind w path_of [])
    start-stands = (layering.starts.sound p.start (start_at [] 0) is_path.start).node

    offset-same : start.offset ≡ (path_start w path_of).offset
    offset-same = (layering.starts.sound p.start (start_at [] 0) is_path.start).offset

    -- a constrained path that the problem's path stands for is this one
    pub path-same : AllPairs (λ l m. launch_before l m ≡ true) w.all.launches → (path : TimingPath) → StandsFor w layered p path → path ≡ path_of
    path-same one path stands =
        let first = layering.starts.sound p.start (start_at [] 0) is_path.start in
        let same = places.StandsAt-one_state w policy layered layering start.node.0 (path_start w path).pin.0 (path_start w path_of).pin.0
        (class_behind w path []) (class_behind w path_of []) stands.start start-stands in
        let pins : (path_start w path).pin.0 ≡ (path_start w path_of).pin.0 = same.0 in
        let clocks : (path_start w path).clock ≡ (path_start w path_of).clock = ap (λ (k : Class). k.clock) same.1 in
        let edges : (path_start w path).edge ≡ (path_start w path_of).edge = ap (λ (k : Class). k.edge) same.1 in
        let launches = places.one-place (λ l m. launch_before l m ≡ true) SameLaunch w.all.launches launch-once one path.launch path_of.launch (launch_at [] 0) stands.launch first.number
        (pins, (clocks, edges)) (sym pins, (sym clocks, sym edges)) in
        ap (λ (n : ℕ). with_arcs n path.arcs) launches ∙ ap (λ (xs : List ArcId). with_arcs path_of.launch xs) stands.arcs

    pub path_numbered : AreNumbered w layered.classes path_of (path_classes layered p)
    path_numbered = record {
      count = count-numbers p.items start.node.0;
      each = λ front rest parts.
          numbered-from path_of p.items start.node.0 end.node.0 (path_start w path_of).pin.0 [] is_path.joined start-stands front rest parts;
    }

    require-same : end.require ≡ room layered.problem p +ℤ (path_start w path_of).offset
    require-same = let offset = offset-same in omega (arith, ints, offset)

    end-same : end_line w.design layered end
        ≡ pin_line (codes "end") w.design (last_pin w.arcs (path_start w path_of).pin.0 path_of.arcs) (number_at (path_classes layered p) (length path_of.arcs)) (room layered.problem p +ℤ (path_start w path_of).offset)
    end-same =
        let stands = end-stands path_of p.items start.node.0 end.node.0 (path_start w path_of).pin.0 [] is_path.joined start-stands in
        let pin = node-pin end.node.0 (last_pin w.arcs (path_start w path_of).pin.0 path_of.arcs) (class_behind w path_of path_of.arcs) stands in
        ap (λ (v : ℕ). pin_line (codes "end") w.design v (class_of_node layered end.node.0) end.require) pin
        ∙ (ap (λ (n : ℕ). pin_line (codes "end") w.design (last_pin w.arcs (path_start w path_of).pin.0 path_of.arcs) n end.require) (sym (last-number p.items start.node.0 end.node.0 is_path.joined))
        ∙ ap (λ (z : ℤ). pin_line (codes "end") w.design (last_pin w.arcs (path_start w path_of).pin.0 path_of.arcs) (number_at (path_classes layered p) (length path_of.arcs)) z) require-same)

    start-same : start_line w.design layered start ≡ pin_line (codes "start") w.design (path_start w path_of).pin.0 (class_of_node layered start.node.0) (path_start w path_of).offset
    start-same =
        ap (λ (v : ℕ). pin_line (codes "start") w.design v (class_of_node layered start.node.0) start.offset) (node-pin start.node.0 (path_start w path_of).pin.0 (class_behind w path_of []) start-stands)
        ∙ ap (λ (z : ℤ). pin_line (codes "start") w.design (path_start w path_of).pin.0 (class_of_node layered start.node.0) z) offset-same

    pub text-same : (slack : ℤ) → layered_text layered w.design w.all slack p ≡ violated_text w layered.classes (path_classes layered p) slack path_of (room layered.problem p)
    unfolding layered_text
    text-same slack =
        joined (slack_line slack) (class_lines w.all (path_classes layered p) 0 layered.classes) start-same (lines-same p.items start.node.0 end.node.0 is_path.joined) end-same
      where
        joined : (a b : List ℕ) {c e c' e' g g' : List ℕ} → c ≡ c' → e ≡ e' → g ≡ g' → a ++ b ++ c ++ e ++ g ≡ a ++ b ++ c' ++ e' ++ g'
        joined a b first second third = rw (first, second, third) refl
