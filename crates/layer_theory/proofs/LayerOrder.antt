-- Live classes stand in one order, and launches, states, nodes and items in one place.
use Rattle.std.specs.Prelude.{◌≡◌, ℕ, ◌<◌, ◌⊎◌, ◌==◌, ◌&&◌, ◌||◌, nat_lt, Bool, true, false, List, [], ◌∷◌, map, filter, length, All, AllPairs}
use Rattle.std.proofs.Common.{refl, sym, ◌∙◌, ap, subst, arith, inl, inr, eq-eqb, true≢false}
use Rattle.std.proofs.lemmas.Bool.{cases_lt}
use Rattle.bud_base.specs.Paths.{Path, IsPath, room, start_at}
use Rattle.bud_base.specs.declared.ids.ArcId.{ArcId}
use Rattle.bud_design.specs.Arcs.{arc_at}
use Rattle.bud_design.specs.Correspondences.{StandsFor}
use Rattle.bud_design.specs.Designs.{is_inside}
use Rattle.bud_design.specs.Exceptions.{steps, class_of, class_at, meets_from}
use Rattle.layer_theory.specs.LayerAnswers.{IsState}
use Rattle.bud_design.specs.Layers.{IsNode, IsItem, BeginsClass, IsFirstLaunch, steps_before, StandsBefore, class_behind, walk_of, BeginsAt, EndsAt, IsLayering}
use Rattle.bud_design.specs.Orders.{edge_before, launch_before}
use Rattle.bud_design.specs.Reaching.{IsReached, LeadsOn}
use Rattle.bud_design.specs.TimingPaths.{View, TimingPath, IsConstrained, path_start, launch_at, passed}
use Rattle.bud_design.specs.declared.clocks.Exception.{Exception}
use Rattle.bud_design.specs.declared.clocks.Launch.{Launch}
use Rattle.bud_syntax.specs.declared.edges.Edge.{Edge}
use Rattle.bud_syntax.specs.declared.edges.Edge.TheVariants.{Rise, Fall}
use Rattle.bud_design.specs.declared.layers.Class.{Class}
use Rattle.bud_design.specs.declared.layers.Layered.{Layered}
use Rattle.bud_design.specs.declared.policies.Policy.{Policy}
use Rattle.bud_design.proofs.ClassLaws.{met_of}
use Rattle.bud_design.proofs.ReachingLaws.{LeadsOn-cases, LeadsOn-arc, LeadsByArc, IsReached-cases, IsReached-arc, ReachedByArc}
use Rattle.bud_design.proofs.NodeLaws as nodes
use Rattle.layer_theory.proofs.LayerPlaces as places
use Rattle.layer_theory.proofs.LayerPaths as paths

-- ---- classes of one launch differ by their steps alone
steps-differ : (es : List Exception) (us vs : List ℕ)
    → (steps_before (map (met_of us) es) (map (met_of vs) es) ≡ true) ⊎ ((steps_before (map (met_of vs) es) (map (met_of us) es) ≡ true) ⊎ (map (met_of us) es ≡ map (met_of vs) es))
steps-differ [] us vs = inr (inr refl)
steps-differ (e ∷ es) us vs = elim (cases_lt (steps us e.groups) (steps vs e.groups)) [
  | inl less ↦ inl (lower (steps us e.groups) (steps vs e.groups) (steps us e.groups == steps vs e.groups && steps_before (map (met_of us) es) (map (met_of vs) es)) less)
  | inr most ↦ elim (cases_lt (steps vs e.groups) (steps us e.groups)) [
    | inl less ↦ inr (inl (lower (steps vs e.groups) (steps us e.groups) (steps vs e.groups == steps us e.groups && steps_before (map (met_of vs) es) (map (met_of us) es)) less))
    | inr least ↦ equal (steps us e.groups) (steps vs e.groups) (omega (arith, most, least)) (steps-differ es us vs)
  ]
]
  where
    lower : (a b : ℕ) (c : Bool) → a < b → (nat_lt a b || c) ≡ true
    lower a b c less = let e : nat_lt a b ≡ true = grind (arith, less) in rw e refl

    equal : (a b : ℕ) → a ≡ b
        → (steps_before (map (met_of us) es) (map (met_of vs) es) ≡ true) ⊎ ((steps_before (map (met_of vs) es) (map (met_of us) es) ≡ true) ⊎ (map (met_of us) es ≡ map (met_of vs) es))
        → ((nat_lt a b || (a == b && steps_before (map (met_of us) es) (map (met_of vs) es))) ≡ true)
        ⊎ (((nat_lt b a || (b == a && steps_before (map (met_of vs) es) (map (met_of us) es))) ≡ true)
        ⊎ (record { number = e.number; steps = a } ∷ map (met_of us) es ≡ record { number = e.number; steps = b } ∷ map (met_of vs) es))
    equal a b same (inl before) = inl (rw (same, before, places.not_below b, eq-eqb b b refl) refl)
    equal a b same (inr (inl before)) = inr (inl (rw (same, before, places.not_below b, eq-eqb b b refl) refl))
    equal a b same (inr (inr whole)) = inr (inr (rw (same, whole) refl))

module _ (w : View) where
  class_of-begun : (n : ℕ) (k : Class) → BeginsClass w n k → (vs : List ℕ) × (k ≡ class_of w.all (launch_at w.all.launches n) vs)
  class_of-begun n k begins =
      let node = begins.1.0 in (
        passed w.arcs (path_start w node.path).pin.0 node.front,
        node.class_is ∙ ap (λ m. class_of w.all (launch_at w.all.launches m) (passed w.arcs (path_start w node.path).pin.0 node.front)) begins.1.1,
      )

  -- two classes with first launches are one, or one stands before the other
  pub classes-differ : (j k : Class) (m n : ℕ) → IsFirstLaunch w j m → IsFirstLaunch w k n → StandsBefore w j k ⊎ (StandsBefore w k j ⊎ (j ≡ k))
  classes-differ j k m n first second = elim (cases_lt m n) [
    | inl less ↦ inl (record { first = m; first_is = first; second = n; second_is = second; before = inl less })
    | inr most ↦ elim (cases_lt n m) [
      | inl less ↦ inr (inl (record { first = n; first_is = second; second = m; second_is = first; before = inl less }))
      | inr least ↦ by_steps (omega (arith, most, least))
    ]
  ]
    where
      by_steps : m ≡ n → StandsBefore w j k ⊎ (StandsBefore w k j ⊎ (j ≡ k))
      by_steps same =
          let l = launch_at w.all.launches n in
          let front = class_of-begun m j first.begins in
          let back = class_of-begun n k second.begins in
          let j_is : j ≡ class_of w.all l front.0 = front.1 ∙ ap (λ i. class_of w.all (launch_at w.all.launches i) front.0) same in
          rank front.0 back.0 j_is back.1 (steps-differ (filter (λ e. meets_from e l) w.all.exceptions) front.0 back.0)
        where
          rank : (us vs : List ℕ) → j ≡ class_of w.all (launch_at w.all.launches n) us → k ≡ class_of w.all (launch_at w.all.launches n) vs
              → (steps_before (class_of w.all (launch_at w.all.launches n) us).exceptions (class_of w.all (launch_at w.all.launches n) vs).exceptions ≡ true)
              ⊎ ((steps_before (class_of w.all (launch_at w.all.launches n) vs).exceptions (class_of w.all (launch_at w.all.launches n) us).exceptions ≡ true)
              ⊎ ((class_of w.all (launch_at w.all.launches n) us).exceptions ≡ (class_of w.all (launch_at w.all.launches n) vs).exceptions))
              → StandsBefore w j k ⊎ (StandsBefore w k j ⊎ (j ≡ k))
          rank us vs j_is k_is (inl before) =
              inl (record { first = m; first_is = first; second = n; second_is = second; before = inr (same, rw (ap (λ (c : Class). c.exceptions) j_is, ap (λ (c : Class). c.exceptions) k_is) before) })
          rank us vs j_is k_is (inr (inl before)) =
              inr (inl (record { first = n; first_is = second; second = m; second_is = first; before = inr (sym same, rw (ap (λ (c : Class). c.exceptions) j_is, ap (λ (c : Class). c.exceptions) k_is) before) }))
          rank us vs j_is k_is (inr (inr equal)) =
              inr (inr (j_is ∙ (ap (λ ms. record { clock = (launch_at w.all.launches n).clock; edge = (launch_at w.all.launches n).edge; exceptions = ms }) equal ∙ sym k_is)))

-- ---- a launch has one number
edge_before-same : (e : Edge) → edge_before e e ≡ false
edge_before-same Rise = refl
edge_before-same Fall = refl

abbrev SameLaunch : Launch → Launch → Type 0
SameLaunch l m = (l.pin.0 ≡ m.pin.0) × ((l.clock ≡ m.clock) × (l.edge ≡ m.edge))

launch_before-same : (l m : Launch) → SameLaunch l m → launch_before l m ≡ true → ⊥
launch_before-same l m same before =
    true≢false (sym before
    ∙ rw (same.0, same.1.0, same.1.1, places.not_below m.pin.0, places.not_below m.clock, eq-eqb m.pin.0 m.pin.0 refl, eq-eqb m.clock m.clock refl, edge_before-same m.edge) refl)

pub launch-one : (launches : List Launch) → AllPairs (λ l m. launch_before l m ≡ true) launches → (n m : ℕ) → n < length launches → m < length launches
    → SameLaunch (launch_at launches n) (launch_at launches m) → n ≡ m
launch-one launches rising n m first second same =
    places.one-place (λ l m. launch_before l m ≡ true) SameLaunch launches launch_before-same rising n m (launch_at [] 0) first second same (sym same.0, (sym same.1.0, sym same.1.1))

module _ (w : View) (rise : AllPairs (λ e f. nat_lt e.number f.number ≡ true) w.all.exceptions) where
  -- ---- states are what is reached, where each arc is inside
  pub IsReached-from_state : ((i : ℕ) → i < length w.arcs → is_inside w.design.places w.root (arc_at w.arcs i).home ≡ true) → (v : ℕ) (k : Class)
      → IsState w v k → IsReached (walk_of w) (BeginsAt w (λ n. Unit {0})) v k
  IsReached-from_state inside v k state =
      subst (IsReached (walk_of w) (BeginsAt w (λ n. Unit {0})) v) (sym state.class_is)
      (nodes.reached-front w rise (λ n. Unit {0}) (record { launch = state.launch; arcs = state.front }) state.number tt state.front v
      (nodes.Joined-from_inside w rise inside state.front (launch_at w.all.launches state.launch).pin.0 v state.joined))

  pub IsState-from_reached : (v : ℕ) (k : Class) → IsReached (walk_of w) (BeginsAt w (λ n. Unit {0})) v k → IsState w v k
  IsState-from_reached v k reached = record {
    launch = reached.begins.launch;
    number = reached.begins.number;
    front = reached.front;
    joined = nodes.Leads-from_joined w rise reached.front (launch_at w.all.launches reached.begins.launch).pin.0 v (nodes.joined-reached w rise (λ n. Unit {0}) v k reached);
    class_is = nodes.class-reached w rise (λ n. Unit {0}) v k reached reached.front;
  }

  module _ (apart : All (λ l. All (λ x. l.pin.0 ≡ x.pin.0 → ⊥) w.all.captures) w.all.launches) where
    -- ---- both states of an item are nodes
    pub IsNode-before_item : (x : ArcId) (k : Class) → IsItem w x k → IsNode w (arc_at w.arcs x.0).from k
    IsNode-before_item x k item =
        let split = nodes.IsItemSplit-from_item w rise (λ n. Unit {0}) x k item tt in
        (nodes.IsNode-from_split w rise apart (λ n. Unit {0}) (arc_at w.arcs x.0).from k (record {
          reached = split.reached;
          leads = LeadsOn-arc (walk_of w) (EndsAt w) (arc_at w.arcs x.0).from k (record { arc = x; uses = (split.below, split.inside); from = refl; leads = split.leads });
        })).0

    pub IsNode-behind_item : (x : ArcId) (k : Class) → IsItem w x k → IsNode w (arc_at w.arcs x.0).to (class_at w.all k (arc_at w.arcs x.0).to)
    IsNode-behind_item x k item =
        let split = nodes.IsItemSplit-from_item w rise (λ n. Unit {0}) x k item tt in
        (nodes.IsNode-from_split w rise apart (λ n. Unit {0}) (arc_at w.arcs x.0).to (class_at w.all k (arc_at w.arcs x.0).to) (record {
          reached = IsReached-arc (walk_of w) (BeginsAt w (λ n. Unit {0})) (arc_at w.arcs x.0).to (class_at w.all k (arc_at w.arcs x.0).to)
              (record { arc = x; before = k; uses = (split.below, split.inside); to = refl; reached = split.reached; goes = refl });
          leads = split.leads;
        })).0

    -- and each node is the first or the last state of an item
    pub record HasItem (v : ℕ) (k : Class) : Type 0 where
      pub arc : ArcId
      pub before : Class
      pub item : IsItem w arc before
      pub side : (((arc_at w.arcs arc.0).from ≡ v) × (before ≡ k)) ⊎ (((arc_at w.arcs arc.0).to ≡ v) × (k ≡ class_at w.all before v))

    pub HasItem-from_node : (v : ℕ) (k : Class) → IsNode w v k → HasItem v k
    HasItem-from_node v k node =
        let split = nodes.IsSplit-from_node w rise (λ n. Unit {0}) v k node tt in
        onward split.reached (LeadsOn-cases (walk_of w) (EndsAt w) v k split.leads) split.leads
      where
        back : EndsAt w v k → LeadsOn (walk_of w) (EndsAt w) v k → BeginsAt w (λ n. Unit {0}) v k ⊎ ReachedByArc (walk_of w) (BeginsAt w (λ n. Unit {0})) v k → HasItem v k
        back ends leads (inl begins) = absurd (nodes.never_ends w rise apart (λ n. Unit {0}) v k k begins ends)
        back ends leads (inr by) = record {
          arc = by.arc;
          before = by.before;
          item = (nodes.IsItem-from_split w rise (λ n. Unit {0}) by.arc by.before (record {
            below = by.uses.0;
            inside = by.uses.1;
            reached = by.reached;
            leads = subst (λ u. LeadsOn (walk_of w) (EndsAt w) u (class_at w.all by.before u)) (sym by.to) (subst (LeadsOn (walk_of w) (EndsAt w) v) by.goes leads);
          })).0;
          side = inr (by.to, by.goes);
        }

        onward : IsReached (walk_of w) (BeginsAt w (λ n. Unit {0})) v k → EndsAt w v k ⊎ LeadsByArc (walk_of w) (EndsAt w) v k → LeadsOn (walk_of w) (EndsAt w) v k → HasItem v k
        onward reached (inl ends) leads = back ends leads (IsReached-cases (walk_of w) (BeginsAt w (λ n. Unit {0})) v k reached)
        onward reached (inr by) leads = record {
          arc = by.arc;
          before = k;
          item = (nodes.IsItem-from_split w rise (λ n. Unit {0}) by.arc k (record {
            below = by.uses.0;
            inside = by.uses.1;
            reached = subst (λ u. IsReached (walk_of w) (BeginsAt w (λ n. Unit {0})) u k) (sym by.from) reached;
            leads = by.leads;
          })).0;
          side = inl (by.from, refl);
        }

    -- ---- a problem path's constrained path is one, of its room
    pub StandsFor-constrained : (policy : Policy) (layered : Layered) → IsLayering w policy layered → AllPairs (λ l m. launch_before l m ≡ true) w.all.launches
        → (p : Path) (path : TimingPath) → IsPath layered.problem p → StandsFor w layered p path → IsConstrained w path (room layered.problem p)
    StandsFor-constrained policy layered layering rising p path is_path stands =
        let other = paths.back w policy layered layering rise apart p is_path in
        let same = places.StandsAt-one_state w policy layered layering (start_at layered.problem.starts p.start).node.0 (path_start w other.0).pin.0 (path_start w path).pin.0
        (class_behind w other.0 []) (class_behind w path []) other.1.0.start stands.start in
        let launch = launch-one w.all.launches rising other.0.launch path.launch other.1.0.launch stands.launch
        (same.0, (ap (λ (k : Class). k.clock) same.1, ap (λ (k : Class). k.edge) same.1)) in
        let path_same : other.0 ≡ path = ap (λ n. record { launch = n; arcs = other.0.arcs }) launch ∙ ap (λ xs. record { launch = path.launch; arcs = xs }) (other.1.0.arcs ∙ sym stands.arcs) in
        subst (λ q. IsConstrained w q (room layered.problem p)) path_same other.1.1

    -- ---- live classes and their first launches
    pub BeginsClass-from_split : (n v : ℕ) (k : Class) → nodes.IsSplit w rise (λ m. m ≡ n) v k → BeginsClass w n k
    BeginsClass-from_split n v k split = (v, nodes.IsNode-from_split w rise apart (λ m. m ≡ n) v k split)

    pub split-from_BeginsClass : (n : ℕ) (k : Class) → BeginsClass w n k → (v : ℕ) × nodes.IsSplit w rise (λ m. m ≡ n) v k
    split-from_BeginsClass n k begins = (begins.0, nodes.IsSplit-from_node w rise (λ m. m ≡ n) begins.0 k begins.1.0 begins.1.1)
