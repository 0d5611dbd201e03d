-- What holds of each state of an explored table.
use Rattle.std.proofs.Common.{◌≡◌, ℕ, zero, suc, ◌<◌, ◌≤◌, ◌⊎◌, Bool, true, false, List, [], ◌∷◌, length, get_or, map, Option, refl, sym, ◌∙◌, ap, subst, inl, inr, arith}
use Rattle.std.specs.Prelude.{All, AllPairs, Contains}
use Rattle.std.specs.List.Sorted.{IsPermutation}
use Rattle.std.proofs.lemmas.List.{get_or_default}
use Rattle.std.proofs.lemmas.List.Sorted.{All-permutation, Contains-permutation}
use Rattle.bud_base.specs.Markings.{AreReaching}
use Rattle.bud_base.specs.Orders.{IsWithinNodes, IsCycle}
use Rattle.bud_base.specs.Paths.{Joins, item_at}
use Rattle.bud_base.specs.declared.ids.ItemId.{ItemId}
use Rattle.bud_base.specs.declared.problems.Item.{Item}
use Rattle.bud_base.specs.declared.problems.End.{End}
use Rattle.bud_design.specs.declared.clocks.Constraints.{Constraints}
use Rattle.bud_design.specs.declared.clocks.Launch.{Launch}
use Rattle.bud_design.specs.declared.layers.Class.{Class}
use Rattle.bud_design.specs.TimingPaths.{launch_at}
use Rattle.live_states.specs.Leading.{leading_graph}
use Rattle.path_states.specs.Tables.{Table, state_at, pin_at, class_in, arc_in, from_in, to_in}
use Rattle.path_states.specs.Exploring.{IsBegun, IsCaused, IsExplored, PinsBelow}
use Rattle.path_states.specs.declared.tables.State.{State}
use Rattle.state_numbers.specs.declared.placed.Placed.{Placed}
use Rattle.path_classes.specs.Placing.{HaveClocks, EndsWithin, IsNodeOf, AreNodes, IsItemOf, AreItems, BeginsAtPlace, AreStarts}
use Rattle.path_classes.specs.Layering.{HasNoRing}

module _ (arcs : List Item) (all : Constraints) (t : Table) (explored : IsExplored arcs all t) where
  pub pin-below : (pins : ℕ) → PinsBelow pins arcs all → (i : ℕ) → i < length t.states → pin_at t i < pins
  pin-below pins within i below = by (explored.states.causes i below)
    where
      by : IsBegun all t i ⊎ IsCaused t i → pin_at t i < pins
      by (inl begun) = omega (arith, begun.pin, within.launches _ begun.number)
      by (inr caused) =
          let edge = explored.states.edges caused.edge caused.within in
          omega (arith, within.to _ edge.arc, edge.enters, ap (pin_at t) caused.to)

  pub pins-below : (pins : ℕ) → PinsBelow pins arcs all → All (λ s. s.pin.0 < pins) t.states
  pins-below pins within k d below = subst (λ (s : State). s.pin.0 < pins) (get_or_default t.states k (state_at [] 0) d below) (pin-below pins within k below)

  clock-in : (fuel i : ℕ) → i < fuel → i < length t.states → All (λ l. l.clock < length all.clocks) all.launches → (class_in t i).clock < length all.clocks
  clock-in zero i under below clocks = absurd (omega (arith, under))
  clock-in (suc fuel) i under below clocks = by (λ j less within. clock-in fuel j (omega (arith, less, under)) within clocks) (explored.states.causes i below)
    where
      by : ((j : ℕ) → j < i → j < length t.states → (class_in t j).clock < length all.clocks) → IsBegun all t i ⊎ IsCaused t i → (class_in t i).clock < length all.clocks
      by earlier (inl begun) = omega (arith, ap (λ (k : Class). k.clock) begun.«class», clocks _ (launch_at [] 0) begun.number)
      by earlier (inr caused) =
          let edge = explored.states.edges caused.edge caused.within in
          omega (arith, earlier _ caused.lower edge.from, ap (λ (k : Class). k.clock) edge.goes, ap (λ j. (class_in t j).clock) caused.to)

  pub clocks-below : All (λ l. l.clock < length all.clocks) all.launches → HaveClocks all t
  clocks-below clocks i below = clock-in (suc i) i (omega arith) below clocks

  pub EndsWithin-of : (ends : List End) (live : List Bool) → AreReaching (leading_graph (length t.states) t.edges ends) live → EndsWithin t live
  EndsWithin-of ends live reaching = record {
    from = λ e below. (explored.states.edges e below).from;
    to = λ e below. (explored.states.edges e below).to;
    alive = λ e below alive.
        let reaches = reaching.only (to_in t e) alive in
        reaching.all (from_in t e) (record { items = record { 0 = e } ∷ reaches.items; end = reaches.end; within = reaches.within; joined = (below, refl, reaches.joined) });
  }

  -- edges join up along arcs
  arcs-along : (is : List ItemId) (i j : ℕ) → Joins t.edges i is j → Joins arcs (pin_at t i) (map (λ x. record { 0 = arc_in t x.0 }) is) (pin_at t j)
  arcs-along [] i j joined = ap (pin_at t) joined
  arcs-along (x ∷ xs) i j joined =
      let edge = explored.states.edges x.0 joined.0 in
      (edge.arc, edge.leaves ∙ ap (pin_at t) joined.1, subst (λ v. Joins arcs v (map (λ (y : ItemId). record { 0 = arc_in t y.0 }) xs) (pin_at t j)) (sym edge.enters) (arcs-along xs (to_in t x.0) j joined.2))

  -- so no edges lead back where no arcs do
  pub acyclic-edges : HasNoRing arcs → (ring : List ItemId) → IsCycle t.edges ring → ⊥
  acyclic-edges none [] cycle = cycle
  acyclic-edges none (x ∷ xs) cycle =
      none (record { 0 = arc_in t x.0 }) (map (λ (y : ItemId). record { 0 = arc_in t y.0 }) xs) (pin_at t (from_in t x.0)) (arcs-along (x ∷ xs) (from_in t x.0) (from_in t x.0) cycle.0)

  pub edges-within : All (IsWithinNodes (length t.states)) t.edges
  edges-within k d below =
      let edge = explored.states.edges k below in
      subst (IsWithinNodes (length t.states)) (get_or_default t.edges k (item_at [] 0) d below) (record { from = edge.from; to = edge.to })

-- in another order
pub AreNodes-sorted : (t : Table) (live : List Bool) (ranks : List (Option ℕ)) (count : ℕ) (xs ys : List Placed) → IsPermutation xs ys → AreNodes t live ranks count xs → AreNodes t live ranks count ys
AreNodes-sorted t live ranks count xs ys same are = record {
  sound = All-permutation (λ x. (i : ℕ) × (i < count) × IsNodeOf t live ranks i x) xs ys same are.sound;
  complete = λ i below alive. let has = are.complete i below alive in (has.0, (Contains-permutation xs ys has.0 same has.1.0, has.1.1));
}

pub AreItems-sorted : (t : Table) (live : List Bool) (ranks : List (Option ℕ)) (count : ℕ) (xs ys : List Placed) → IsPermutation xs ys → AreItems t live ranks count xs → AreItems t live ranks count ys
AreItems-sorted t live ranks count xs ys same are = record {
  sound = All-permutation (λ x. (e : ℕ) × (e < count) × IsItemOf t live ranks e x) xs ys same are.sound;
  complete = λ e below alive. let has = are.complete e below alive in (has.0, (Contains-permutation xs ys has.0 same has.1.0, has.1.1));
}

pub AreStarts-sorted : (all : Constraints) (kinds : List Class) (ranks : List (Option ℕ)) (nodes : List Placed) (count : ℕ) (xs ys : List Placed) → IsPermutation xs ys
    → AreStarts all kinds ranks nodes count xs → AreStarts all kinds ranks nodes count ys
AreStarts-sorted all kinds ranks nodes count xs ys same are = record {
  flat = All-permutation (λ (x : Placed). x.«class» ≡ 0) xs ys same are.flat;
  within = All-permutation (λ (x : Placed). x.with < count) xs ys same are.within;
  sound = All-permutation (λ (x : Placed). BeginsAtPlace all kinds ranks nodes (launch_at all.launches x.with) x.number) xs ys same are.sound;
  complete = λ n below place begins. Contains-permutation xs ys (record { «class» = 0; number = place; with = n }) same (are.complete n below place begins);
}
