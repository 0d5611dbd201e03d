-- The states from which edges lead to an end are those that lead on.
use Rattle.std.proofs.Common.{◌≡◌, ℕ, ◌<◌, ◌≤◌, ◌↔◌, Bool, true, false, List, [], ◌∷◌, map, length, get_or, refl, sym, ◌∙◌, ap, subst, arith}
use Rattle.std.specs.Prelude.{All, Contains, Some, ℤ}
use Rattle.std.proofs.lemmas.List.{get_or_default}
use Rattle.bud_base.specs.Paths.{Joins, item_at, end_at}
use Rattle.bud_base.specs.Orders.{Reaches, IsCycle}
use Rattle.bud_base.specs.Markings.{AreReaching}
use Rattle.bud_base.specs.declared.ids.ArcId.{ArcId}
use Rattle.bud_base.specs.declared.ids.ItemId.{ItemId}
use Rattle.bud_base.specs.declared.problems.End.{End}
use Rattle.bud_base.specs.declared.problems.Item.{Item}
use Rattle.bud_design.specs.Arcs.{arc_at, Leads}
use Rattle.bud_design.specs.Exceptions.{class_at, class_requirement}
use Rattle.bud_design.specs.Layers.{walk_of, EndsAt}
use Rattle.bud_design.specs.Reaching.{pin_behind, Joined, along, LeadsOn}
use Rattle.bud_design.specs.TimingPaths.{View, least_asked}
use Rattle.bud_design.specs.declared.layers.Class.{Class}
use Rattle.bud_design.proofs.ReachingLaws.{LeadsOn-ends, LeadsOn-arc}
use Rattle.live_states.specs.Leading.{leading_graph}
use Rattle.path_states.specs.Tables.{Table, pin_at, class_in, arc_in, from_in, to_in}
use Rattle.path_states.specs.Exploring.{IsExplored}
use Rattle.state_laws.specs.Views.{HasArcs, AreLive, AreStateEnds}
use Rattle.state_laws.proofs.ReachedStates.{arc-below, arc-from, arc-to}

module _ (w : View) (arcs : List Item) (has_arcs : HasArcs w arcs) (t : Table) (explored : IsExplored arcs w.all t) where
  -- edges that join up lead on as far as the state behind them does
  leads-along : (is : List ItemId) (i j : ℕ) → Joins t.edges i is j → LeadsOn (walk_of w) (EndsAt w) (pin_at t j) (class_in t j) → LeadsOn (walk_of w) (EndsAt w) (pin_at t i) (class_in t i)
  leads-along [] i j joined leads = subst (λ k. LeadsOn (walk_of w) (EndsAt w) (pin_at t k) (class_in t k)) (sym joined) leads
  leads-along (x ∷ xs) i j joined leads =
      let edge = explored.states.edges x.0 joined.0 in
      let rest = leads-along xs (to_in t x.0) j joined.2 leads in
      let to_pin = arc-to w arcs has_arcs t explored x.0 joined.0 in
      subst (λ k. LeadsOn (walk_of w) (EndsAt w) (pin_at t k) (class_in t k)) joined.1
      (LeadsOn-arc (walk_of w) (EndsAt w) (pin_at t (from_in t x.0)) (class_in t (from_in t x.0)) (record {
        arc = record { 0 = arc_in t x.0 };
        uses = (arc-below w arcs has_arcs t explored x.0 joined.0, has_arcs.inside (arc_in t x.0) (arc-below w arcs has_arcs t explored x.0 joined.0));
        from = arc-from w arcs has_arcs t explored x.0 joined.0;
        leads = subst (λ v. LeadsOn (walk_of w) (EndsAt w) v (class_at w.all (class_in t (from_in t x.0)) v)) (sym to_pin)
            (subst (LeadsOn (walk_of w) (EndsAt w) (pin_at t (to_in t x.0))) edge.goes rest);
      }))

  module _ (ends : List End) (are : AreStateEnds w.all t (length t.states) ends) where
    leads-back : (xs : List ArcId) (i z : ℕ) → i < length t.states → Joined (walk_of w) (pin_at t i) xs z → EndsAt w z (along (walk_of w) (class_in t i) (map (pin_behind (walk_of w)) xs))
        → Reaches (leading_graph (length t.states) t.edges ends) i
    leads-back [] i z below joined asks =
        let there = are.complete i below asks.0 (ap (λ v. least_asked w.all.captures v (class_requirement w.all (class_in t i))) joined ∙ asks.1) in
        record {
          items = [];
          end = there.0;
          within = there.1;
          joined = sym (ap (λ (e : End). e.node.0) (get_or_default ends there.0 (end_at [] 0) (record { node = record { 0 = i }; require = asks.0 }) there.1 ∙ there.2));
        }
    leads-back (x ∷ xs) i z below joined asks =
        let within : x.0 < length arcs = omega (arith, joined.0.0, has_arcs.count) in
        let there = explored.tried i below x.0 within within (sym (has_arcs.from x.0 within) ∙ joined.1) in
        let edge = explored.states.edges there.edge there.within in
        let to_pin : (arc_at w.arcs x.0).to ≡ pin_at t (to_in t there.edge) = ap (λ a. (arc_at w.arcs a).to) (sym there.arc) ∙ arc-to w arcs has_arcs t explored there.edge there.within in
        let to_class : class_at w.all (class_in t i) (arc_at w.arcs x.0).to ≡ class_in t (to_in t there.edge)
        = ap (λ v. class_at w.all (class_in t i) v) to_pin ∙ (ap (λ k. class_at w.all (class_in t k) (pin_at t (to_in t there.edge))) (sym there.from) ∙ sym edge.goes) in
        let rest = leads-back xs (to_in t there.edge) z edge.to (subst (λ v. Joined (walk_of w) v xs z) to_pin joined.2)
        (subst (λ k. EndsAt w z (along (walk_of w) k (map (pin_behind (walk_of w)) xs))) to_class asks) in
        record {
          items = record { 0 = there.edge } ∷ rest.items;
          end = rest.end;
          within = rest.within;
          joined = (there.within, there.from, rest.joined);
        }

    pub AreLive-from_reaching : (live : List Bool) → AreReaching (leading_graph (length t.states) t.edges ends) live → AreLive w t live
    AreLive-from_reaching live reaching i below = (
      λ marked.
          let reaches = reaching.only i marked in
          let asks = are.sound reaches.end (end_at [] 0) reaches.within in
          leads-along reaches.items i (end_at ends reaches.end).node.0 reaches.joined
          (LeadsOn-ends (walk_of w) (EndsAt w) (pin_at t (end_at ends reaches.end).node.0) (class_in t (end_at ends reaches.end).node.0) ((end_at ends reaches.end).require, asks)),
      λ leads. reaching.all i (leads-back leads.rest i leads.pin below leads.joined leads.ends),
    )

  -- a live state's edge comes from a live state
  pub alive-before : (ends : List End) (live : List Bool) → AreReaching (leading_graph (length t.states) t.edges ends) live → (e : ℕ) → e < length t.edges
      → get_or live (to_in t e) false ≡ true → get_or live (from_in t e) false ≡ true
  alive-before ends live reaching e below alive =
      let reaches = reaching.only (to_in t e) alive in
      reaching.all (from_in t e) (record { items = record { 0 = e } ∷ reaches.items; end = reaches.end; within = reaches.within; joined = (below, refl, reaches.joined) })

  -- edges join up along arcs
  arcs-along : (is : List ItemId) (i j : ℕ) → Joins t.edges i is j → Joins arcs (pin_at t i) (map (λ x. record { 0 = arc_in t x.0 }) is) (pin_at t j)
  arcs-along [] i j joined = ap (pin_at t) joined
  arcs-along (x ∷ xs) i j joined =
      let edge = explored.states.edges x.0 joined.0 in
      (edge.arc, edge.leaves ∙ ap (pin_at t) joined.1, subst (λ v. Joins arcs v (map (λ (y : ItemId). record { 0 = arc_in t y.0 }) xs) (pin_at t j)) (sym edge.enters) (arcs-along xs (to_in t x.0) j joined.2))

  -- so no edges lead back where no arcs do
  pub edges-acyclic : ((x : ItemId) (xs : List ItemId) (v : ℕ) → Joins arcs v (x ∷ xs) v → ⊥) → (ring : List ItemId) → IsCycle t.edges ring → ⊥
  edges-acyclic none [] cycle = cycle
  edges-acyclic none (x ∷ xs) cycle =
      none (record { 0 = arc_in t x.0 }) (map (λ (y : ItemId). record { 0 = arc_in t y.0 }) xs) (pin_at t (from_in t x.0)) (arcs-along (x ∷ xs) (from_in t x.0) (from_in t x.0) cycle.0)
