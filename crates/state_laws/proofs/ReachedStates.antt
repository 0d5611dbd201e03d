-- The states of a table are those that launches reach.
use Rattle.std.proofs.Common.{◌≡◌, ℕ, zero, suc, ◌<◌, ◌≤◌, ◌⊎◌, List, [], ◌∷◌, length, refl, sym, ◌∙◌, ap, subst, inl, inr, arith}
use Rattle.bud_base.specs.Paths.{item_at}
use Rattle.bud_base.specs.declared.ids.ArcId.{ArcId}
use Rattle.bud_base.specs.declared.problems.Item.{Item}
use Rattle.bud_design.specs.Arcs.{arc_at}
use Rattle.bud_design.specs.Exceptions.{class_of, class_at}
use Rattle.bud_design.specs.Layers.{walk_of, BeginsAt}
use Rattle.bud_design.specs.Reaching.{IsReached}
use Rattle.bud_design.specs.TimingPaths.{View, launch_at}
use Rattle.bud_design.specs.declared.layers.Class.{Class}
use Rattle.bud_design.proofs.ReachingLaws.{IsReached-begins, IsReached-arc, IsReached-closed}
use Rattle.path_states.specs.Tables.{Table, pin_at, class_in, launch_in, arc_in, from_in, to_in}
use Rattle.path_states.specs.Exploring.{IsEdge, IsBegun, IsCaused, HasEdge, HasBegin, IsExplored}
use Rattle.state_laws.specs.Views.{HasArcs, HasState}

module _ (w : View) (arcs : List Item) (has_arcs : HasArcs w arcs) (t : Table) (explored : IsExplored arcs w.all t) where
  -- an edge's arc in the view
  pub arc-below : (e : ℕ) → e < length t.edges → arc_in t e < length w.arcs
  arc-below e below = omega (arith, (explored.states.edges e below).arc, has_arcs.count)

  pub arc-from : (e : ℕ) → e < length t.edges → (arc_at w.arcs (arc_in t e)).from ≡ pin_at t (from_in t e)
  arc-from e below = let edge = explored.states.edges e below in has_arcs.from (arc_in t e) edge.arc ∙ edge.leaves

  pub arc-to : (e : ℕ) → e < length t.edges → (arc_at w.arcs (arc_in t e)).to ≡ pin_at t (to_in t e)
  arc-to e below = let edge = explored.states.edges e below in has_arcs.to (arc_in t e) edge.arc ∙ edge.enters

  -- each state is reached from its launch
  reached-in : (fuel i : ℕ) → i < fuel → i < length t.states → IsReached (walk_of w) (BeginsAt w (λ m. m ≡ launch_in t i)) (pin_at t i) (class_in t i)
  reached-in zero i under below = absurd (omega (arith, under))
  reached-in (suc fuel) i under below = by (λ j less within. reached-in fuel j (omega (arith, less, under)) within) (explored.states.causes i below)
    where
      by : ((j : ℕ) → j < i → j < length t.states → IsReached (walk_of w) (BeginsAt w (λ m. m ≡ launch_in t j)) (pin_at t j) (class_in t j))
          → IsBegun w.all t i ⊎ IsCaused t i → IsReached (walk_of w) (BeginsAt w (λ m. m ≡ launch_in t i)) (pin_at t i) (class_in t i)
      by earlier (inl begun) =
          IsReached-begins (walk_of w) (BeginsAt w (λ m. m ≡ launch_in t i)) (pin_at t i) (class_in t i)
          (record { launch = launch_in t i; number = begun.number; from = refl; pin_is = sym begun.pin; class_is = begun.«class» })
      by earlier (inr caused) =
          let e = caused.edge in
          let edge = explored.states.edges e caused.within in
          let before = earlier (from_in t e) caused.lower edge.from in
          let from_launch = subst (λ n. IsReached (walk_of w) (BeginsAt w (λ m. m ≡ n)) (pin_at t (from_in t e)) (class_in t (from_in t e))) caused.launch before in
          let here = IsReached-arc (walk_of w) (BeginsAt w (λ m. m ≡ launch_in t i)) (pin_at t (to_in t e)) (class_in t (to_in t e)) (record {
            arc = record { 0 = arc_in t e };
            before = class_in t (from_in t e);
            uses = (arc-below e caused.within, has_arcs.inside (arc_in t e) (arc-below e caused.within));
            to = arc-to e caused.within;
            reached = subst (λ v. IsReached (walk_of w) (BeginsAt w (λ m. m ≡ launch_in t i)) v (class_in t (from_in t e))) (sym (arc-from e caused.within)) from_launch;
            goes = edge.goes;
          }) in
          subst (λ j. IsReached (walk_of w) (BeginsAt w (λ m. m ≡ launch_in t i)) (pin_at t j) (class_in t j)) caused.to here

  pub state-reached : (i : ℕ) → i < length t.states → IsReached (walk_of w) (BeginsAt w (λ m. m ≡ launch_in t i)) (pin_at t i) (class_in t i)
  state-reached i below = reached-in (suc i) i (omega arith) below

  -- and what a launch reaches is a state, with this launch or an earlier one
  pub reached-state : (n v : ℕ) (k : Class) → IsReached (walk_of w) (BeginsAt w (λ m. m ≡ n)) v k → HasState t v k n
  reached-state n = IsReached-closed (walk_of w) (BeginsAt w (λ m. m ≡ n)) (λ v k. HasState t v k n) begin step
    where
      begin : (v : ℕ) (k : Class) → BeginsAt w (λ m. m ≡ n) v k → HasState t v k n
      begin v k begins =
          let has = explored.begun begins.launch begins.number in
          record {
            state = has.state;
            within = has.within;
            pin = has.pin ∙ begins.pin_is;
            class_is = has.«class» ∙ sym begins.class_is;
            earlier = omega (arith, has.earlier, begins.from);
          }

      step : (x : ArcId) (k : Class) → (walk_of w).Uses x → HasState t (arc_at w.arcs x.0).from k n → HasState t (arc_at w.arcs x.0).to (class_at w.all k (arc_at w.arcs x.0).to) n
      step x k uses has =
          let below : x.0 < length arcs = omega (arith, uses.0, has_arcs.count) in
          let there = explored.tried has.state has.within x.0 below below (sym (has_arcs.from x.0 below) ∙ sym has.pin) in
          let edge = explored.states.edges there.edge there.within in
          let to_pin : pin_at t (to_in t there.edge) ≡ (arc_at w.arcs x.0).to = sym (arc-to there.edge there.within) ∙ ap (λ a. (arc_at w.arcs a).to) there.arc in
          record {
            state = to_in t there.edge;
            within = edge.to;
            pin = to_pin;
            class_is = edge.goes ∙ (ap (λ v. class_at w.all (class_in t (from_in t there.edge)) v) to_pin ∙ ap (λ j. class_at w.all j (arc_at w.arcs x.0).to) (ap (class_in t) there.from ∙ has.class_is));
            earlier = omega (arith, edge.earlier, ap (launch_in t) there.from, has.earlier);
          }

  -- of whichever launch
  pub some-state : (v : ℕ) (k : Class) → (reached : IsReached (walk_of w) (BeginsAt w (λ m. Unit {0})) v k) → HasState t v k reached.begins.launch
  some-state v k reached = reached-state reached.begins.launch v k (record {
    pin = reached.pin;
    first = reached.first;
    begins = record { launch = reached.begins.launch; number = reached.begins.number; from = refl; pin_is = reached.begins.pin_is; class_is = reached.begins.class_is };
    front = reached.front;
    joined = reached.joined;
    class_is = reached.class_is;
  })

  -- a state is reached from some launch
  pub state-from_some : (i : ℕ) → i < length t.states → IsReached (walk_of w) (BeginsAt w (λ m. Unit {0})) (pin_at t i) (class_in t i)
  state-from_some i below =
      let reached = state-reached i below in
      record {
        pin = reached.pin;
        first = reached.first;
        begins = record { launch = reached.begins.launch; number = reached.begins.number; from = tt; pin_is = reached.begins.pin_is; class_is = reached.begins.class_is };
        front = reached.front;
        joined = reached.joined;
        class_is = reached.class_is;
      }
