-- Arrivals that suit budgets, said of the pins, arcs and launches of a layered design.
use Rattle.std.specs.Prelude.{◌≡◌, ℕ, ◌<◌, ℤ, ◌+ℤ◌, ◌≤ℤ◌, List, [], ◌∷◌, length, Some}
use Rattle.std.proofs.Common.{refl, sym, ◌∙◌, ap, subst, arith}
use Rattle.std.proofs.lemmas.Int.{ints}
use Rattle.std.proofs.lemmas.List.{get_or_default}
use Rattle.bud_base.specs.Paths.{item_at, start_at, end_at}
use Rattle.bud_base.specs.declared.ids.ArcId.{ArcId}
use Rattle.bud_base.specs.declared.ids.ItemId.{ItemId}
use Rattle.bud_base.specs.declared.problems.Start.{Start}
use Rattle.bud_base.specs.declared.problems.End.{End}
use Rattle.bud_design.specs.Arcs.{arc_at}
use Rattle.bud_design.specs.Correspondences.{arc_of_item}
use Rattle.bud_design.specs.Exceptions.{class_of, class_at, class_requirement}
use Rattle.bud_design.specs.Layers.{IsNode, IsItem, IsLayering, Stands, class_number}
use Rattle.bud_design.specs.TimingPaths.{View, launch_at, least_asked}
use Rattle.bud_design.specs.declared.layers.Class.{Class}
use Rattle.bud_design.specs.declared.layers.Layered.{Layered}
use Rattle.bud_design.specs.declared.policies.Policy.{Policy}
use Rattle.bud_flow.specs.Sums.{number_at}
use Rattle.bud_plans.specs.Budgets.{SuitBudgets}
use Rattle.layer_theory.proofs.LayerPlaces as places
use Rattle.block_theory.specs.Pieces.{ArrivesAt}

module _ (w : View) (policy : Policy) (layered : Layered) (layering : IsLayering w policy layered) (budgets arrivals : List ℤ) (suit : SuitBudgets layered.problem budgets arrivals) where
  abbrev StandsAt : ℕ → ℕ → Class → Type 0
  StandsAt n v k = Stands layered.classes layered.nodes n v k

  abbrev Arrives : ℕ → Class → ℤ → Type 0
  Arrives v k time = ArrivesAt layered arrivals v k time

  -- a node has an arrival, and one alone
  pub arrives-node : (v : ℕ) (k : Class) → IsNode w v k → (time : ℤ) × Arrives v k time
  arrives-node v k node =
      let n = places.node-placed w policy layered layering v k node in
      (number_at arrivals n.0, record { node = n.0; stands = n.1; time_is = refl })

  pub arrives-one : (v : ℕ) (k : Class) (s t : ℤ) → Arrives v k s → Arrives v k t → s ≡ t
  arrives-one v k s t first second =
      first.time_is
      ∙ (ap (number_at arrivals) (places.StandsAt-one_number w policy layered layering first.node second.node v k first.stands second.stands) ∙ sym second.time_is)

  -- the item of an arc in a class, and its budget between the arrivals of its pins
  pub record Follows (x : ArcId) (k : Class) : Type 0 where
    pub item : ItemId
    pub below : item.0 < length layered.problem.items
    pub arc_is : arc_of_item layered.items item ≡ x
    pub follows : (s t : ℤ) → Arrives (arc_at w.arcs x.0).from k s → Arrives (arc_at w.arcs x.0).to (class_at w.all k (arc_at w.arcs x.0).to) t → (s +ℤ number_at budgets item.0) ≤ℤ t

  pub Follows-item : (x : ArcId) (k : Class) → IsItem w x k → IsNode w (arc_at w.arcs x.0).from k → Follows x k
  Follows-item x k item node =
      let placed = places.item-placed w policy layered layering x k item node in
      let i = placed.0 in
      let to = (arc_at w.arcs x.0).to in
      let from_node = (item_at layered.problem.items i.0).from.0 in
      let to_node = (item_at layered.problem.items i.0).to.0 in
      let stands = places.item-stands w policy layered layering i placed.1.0 in
      let from_here = subst (λ j. StandsAt from_node (arc_at w.arcs x.0).from j) placed.1.1.1
      (subst (λ y. StandsAt from_node (arc_at w.arcs y.0).from (class_number layered.classes (places.layer_item w policy layered layering i).«class».0)) placed.1.1.0 stands.from) in
      let to_here = subst (λ j. StandsAt to_node to (class_at w.all j to)) placed.1.1.1
      (subst (λ y. StandsAt to_node (arc_at w.arcs y.0).to (class_at w.all (class_number layered.classes (places.layer_item w policy layered layering i).«class».0) (arc_at w.arcs y.0).to)) placed.1.1.0 stands.to) in
      record {
        item = i;
        below = placed.1.0;
        arc_is = placed.1.1.0;
        follows = λ s t first last.
            (let before = arrives-one (arc_at w.arcs x.0).from k s (number_at arrivals from_node) first (record { node = from_node; stands = from_here; time_is = refl }) in
            let behind = arrives-one to (class_at w.all k to) t (number_at arrivals to_node) last (record { node = to_node; stands = to_here; time_is = refl }) in
            omega (arith, ints, before, behind, suit.suit.items i.0 placed.1.0));
      }

  -- the arrival where a launch begins is at least its offset
  pub begins-most : (launch : ℕ) → launch < length w.all.launches → (s : ℤ)
      → Arrives (launch_at w.all.launches launch).pin.0 (class_of w.all (launch_at w.all.launches launch) ((launch_at w.all.launches launch).pin.0 ∷ [])) s
      → (launch_at w.all.launches launch).offset ≤ℤ s
  begins-most launch below s here =
      let start : Start = record { node = record { 0 = here.node }; offset = (launch_at w.all.launches launch).offset } in
      let there = layering.starts.complete start (record { launch = launch; number = below; node = here.stands; offset = refl }) in
      let read = get_or_default layered.problem.starts there.0 (start_at [] 0) start there.1 ∙ there.2 in
      omega (arith, ints, here.time_is, ap (λ (x : Start). x.offset) read, ap (λ (x : Start). number_at arrivals x.node.0) read, suit.suit.starts there.0 there.1)

  -- and where captures ask for a time, at most that
  pub ends-most : (v : ℕ) (k : Class) (r : ℤ) → least_asked w.all.captures v (class_requirement w.all k) ≡ Some r → (s : ℤ) → Arrives v k s → s ≤ℤ r
  ends-most v k r asks s here =
      let end : End = record { node = record { 0 = here.node }; require = r } in
      let there = layering.ends.complete end (record { pin = v; «class» = k; node = here.stands; require = asks }) in
      let read = get_or_default layered.problem.ends there.0 (end_at [] 0) end there.1 ∙ there.2 in
      omega (arith, ints, here.time_is, ap (λ (x : End). x.require) read, ap (λ (x : End). number_at arrivals x.node.0) read, suit.suit.ends there.0 there.1)
