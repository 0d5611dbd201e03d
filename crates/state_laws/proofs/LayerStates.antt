-- Nodes and items of a layering are live states and edges to live states.
use Rattle.std.proofs.Common.{◌≡◌, ℕ, ◌<◌, ◌≤◌, Bool, true, false, List, [], ◌∷◌, length, get_or, nat_lt, refl, sym, ◌∙◌, ap, subst, arith}
use Rattle.std.specs.Prelude.{All, AllPairs}
use Rattle.bud_base.specs.declared.ids.ArcId.{ArcId}
use Rattle.bud_base.specs.declared.problems.Item.{Item}
use Rattle.bud_design.specs.Arcs.{arc_at}
use Rattle.bud_design.specs.Exceptions.{class_at}
use Rattle.bud_design.specs.Layers.{IsNode, IsItem, BeginsClass, walk_of, BeginsAt, EndsAt}
use Rattle.bud_design.specs.Reaching.{IsReached, LeadsOn}
use Rattle.bud_design.specs.TimingPaths.{View}
use Rattle.bud_design.specs.declared.layers.Class.{Class}
use Rattle.bud_design.proofs.NodeLaws as nodes
use Rattle.layer_theory.proofs.LayerOrder as orders
use Rattle.path_states.specs.Tables.{Table, pin_at, class_in, launch_in, arc_in, from_in, to_in}
use Rattle.path_states.specs.Exploring.{IsExplored}
use Rattle.state_laws.specs.Views.{HasArcs, HasState, AreLive}
use Rattle.state_laws.proofs.ReachedStates.{arc-below, arc-from, arc-to, state-reached, reached-state, some-state, state-from_some}

-- a live state for the pin and the class
pub record HasLive (t : Table) (live : List Bool) (v : ℕ) (k : Class) : Type 0 where
  pub state : ℕ
  pub within : state < length t.states
  pub alive : get_or live state false ≡ true
  pub pin : pin_at t state ≡ v
  pub class_is : class_in t state ≡ k

-- an edge along the arc, from a state of the class to a live one
pub record HasLiveEdge (t : Table) (live : List Bool) (a : ℕ) (k : Class) : Type 0 where
  pub edge : ℕ
  pub within : edge < length t.edges
  pub alive : get_or live (to_in t edge) false ≡ true
  pub arc : arc_in t edge ≡ a
  pub class_is : class_in t (from_in t edge) ≡ k

module _ (w : View) (arcs : List Item) (has_arcs : HasArcs w arcs) (t : Table) (explored : IsExplored arcs w.all t) (live : List Bool) (are_live : AreLive w t live)
    (rise : AllPairs (λ e f. nat_lt e.number f.number ≡ true) w.all.exceptions) where
  -- a state that this launch or an earlier one reaches and that leads on is live
  alive-at : (v n : ℕ) (k : Class) (has : HasState t v k n) → LeadsOn (walk_of w) (EndsAt w) v k → get_or live has.state false ≡ true
  alive-at v n k has leads =
      (are_live has.state has.within).1
      (subst (λ u. LeadsOn (walk_of w) (EndsAt w) u (class_in t has.state)) (sym has.pin) (subst (LeadsOn (walk_of w) (EndsAt w) v) (sym has.class_is) leads))

  pub live-from_node : (v : ℕ) (k : Class) → IsNode w v k → HasLive t live v k
  live-from_node v k node =
      let split = nodes.IsSplit-from_node w rise (λ m. Unit {0}) v k node tt in
      let has = some-state w arcs has_arcs t explored v k split.reached in
      record { state = has.state; within = has.within; alive = alive-at v split.reached.begins.launch k has split.leads; pin = has.pin; class_is = has.class_is }

  pub edge-from_item : (x : ArcId) (k : Class) → IsItem w x k → HasLiveEdge t live x.0 k
  edge-from_item x k item =
      let split = nodes.IsItemSplit-from_item w rise (λ m. Unit {0}) x k item tt in
      let has = some-state w arcs has_arcs t explored (arc_at w.arcs x.0).from k split.reached in
      let below : x.0 < length arcs = omega (arith, split.below, has_arcs.count) in
      let there = explored.tried has.state has.within x.0 below below (sym (has_arcs.from x.0 below) ∙ sym has.pin) in
      let edge = explored.states.edges there.edge there.within in
      let to_pin : (arc_at w.arcs x.0).to ≡ pin_at t (to_in t there.edge) = ap (λ a. (arc_at w.arcs a).to) (sym there.arc) ∙ arc-to w arcs has_arcs t explored there.edge there.within in
      let from_class : class_in t (from_in t there.edge) ≡ k = ap (class_in t) there.from ∙ has.class_is in
      let to_class : class_at w.all k (arc_at w.arcs x.0).to ≡ class_in t (to_in t there.edge)
      = ap (λ v. class_at w.all k v) to_pin ∙ (ap (λ j. class_at w.all j (pin_at t (to_in t there.edge))) (sym from_class) ∙ sym edge.goes) in
      record {
        edge = there.edge;
        within = there.within;
        alive = (are_live (to_in t there.edge) edge.to).1
            (subst (λ u. LeadsOn (walk_of w) (EndsAt w) u (class_in t (to_in t there.edge))) to_pin (subst (LeadsOn (walk_of w) (EndsAt w) (arc_at w.arcs x.0).to) to_class split.leads));
        arc = there.arc;
        class_is = from_class;
      }

  pub item-from_edge : (e : ℕ) → e < length t.edges → get_or live (to_in t e) false ≡ true → IsItem w (record { 0 = arc_in t e }) (class_in t (from_in t e))
  item-from_edge e below alive =
      let edge = explored.states.edges e below in
      let to_pin = arc-to w arcs has_arcs t explored e below in
      (nodes.IsItem-from_split w rise (λ m. Unit {0}) (record { 0 = arc_in t e }) (class_in t (from_in t e)) (record {
        below = arc-below w arcs has_arcs t explored e below;
        inside = has_arcs.inside (arc_in t e) (arc-below w arcs has_arcs t explored e below);
        reached = subst (λ v. IsReached (walk_of w) (BeginsAt w (λ m. Unit {0})) v (class_in t (from_in t e))) (sym (arc-from w arcs has_arcs t explored e below))
            (state-from_some w arcs has_arcs t explored (from_in t e) edge.from);
        leads = subst (λ v. LeadsOn (walk_of w) (EndsAt w) v (class_at w.all (class_in t (from_in t e)) v)) (sym to_pin)
            (subst (LeadsOn (walk_of w) (EndsAt w) (pin_at t (to_in t e))) edge.goes ((are_live (to_in t e) edge.to).0 alive));
      })).0

  module _ (apart : All (λ l. All (λ x. l.pin.0 ≡ x.pin.0 → ⊥) w.all.captures) w.all.launches) where
    pub node-from_live : (i : ℕ) → i < length t.states → get_or live i false ≡ true → IsNode w (pin_at t i) (class_in t i)
    node-from_live i below alive =
        (nodes.IsNode-from_split w rise apart (λ m. Unit {0}) (pin_at t i) (class_in t i) (record { reached = state-from_some w arcs has_arcs t explored i below; leads = (are_live i below).0 alive })).0

    -- the launch of a live state begins the class
    pub begins-from_live : (i : ℕ) → i < length t.states → get_or live i false ≡ true → BeginsClass w (launch_in t i) (class_in t i)
    begins-from_live i below alive =
        orders.BeginsClass-from_split w rise apart (launch_in t i) (pin_at t i) (class_in t i) (record { reached = state-reached w arcs has_arcs t explored i below; leads = (are_live i below).0 alive })

    -- and a launch that begins a class has a live state of it, with it or an earlier one
    pub live-from_begins : (n : ℕ) (k : Class) → BeginsClass w n k → (i : ℕ) × ((i < length t.states) × ((get_or live i false ≡ true) × ((class_in t i ≡ k) × (launch_in t i ≤ n))))
    live-from_begins n k begins =
        let split = orders.split-from_BeginsClass w rise apart n k begins in
        let has = reached-state w arcs has_arcs t explored n split.0 k split.1.reached in
        (has.state, (has.within, (alive-at split.0 n k has split.1.leads, (has.class_is, has.earlier))))
