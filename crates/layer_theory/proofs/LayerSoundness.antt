-- A layered problem has no cycle, and each of its nodes lies on a path.
use Rattle.std.specs.Prelude.{◌≡◌, ℕ, ◌<◌, nat_lt, true, List, [], ◌∷◌, map, length, All, AllPairs, slice_index_or, Err}
use Rattle.std.proofs.Common.{refl, sym, ◌∙◌, subst, arith}
use Rattle.std.proofs.lemmas.List.{get_or_default}
use Rattle.bud_base.specs.Orders.{IsLive}
use Rattle.bud_base.specs.Paths.{Joins, item_at, start_at, end_at}
use Rattle.bud_base.specs.Soundness.{HasNoCycle, IsInRange, IsCheckAnswer}
use Rattle.bud_base.specs.declared.problems.Problem.{Problem}
use Rattle.bud_base.specs.declared.checks.ProblemFault.{ProblemFault}
use Rattle.bud_base.specs.declared.checks.ProblemFault.TheVariants.{BadNode, BadBounds, BadTime, TooLarge, Cycle, Dead, NoMemory}
use Rattle.std.proofs.lemmas.Option.{none-some}
use Rattle.bud_base.specs.declared.ids.ItemId.{ItemId}
use Rattle.bud_base.specs.declared.ids.PinId.{PinId}
use Rattle.bud_base.specs.declared.problems.Start.{Start}
use Rattle.bud_base.specs.declared.problems.End.{End}
use Rattle.bud_design.specs.Arcs.{arc_at, Leads, IsTopological}
use Rattle.bud_design.specs.Exceptions.{class_of}
use Rattle.bud_design.specs.Layers.{class_number, walk_of, BeginsAt, EndsAt, Stands, IsLayering}
use Rattle.bud_design.specs.Reaching.{pin_behind, along, LeadsOn}
use Rattle.bud_design.specs.TimingPaths.{View, launch_at}
use Rattle.bud_design.specs.declared.layers.Class.{Class}
use Rattle.bud_design.specs.declared.layers.LayerNode.{LayerNode}
use Rattle.bud_design.specs.declared.layers.Layered.{Layered}
use Rattle.bud_design.specs.declared.policies.Policy.{Policy}
use Rattle.bud_design.proofs.ReachingLaws.{LeadsOn-before, IsReached-begins}
use Rattle.bud_design.proofs.ArcOrders.{Leads-never_back}
use Rattle.bud_design.proofs.NodeLaws as nodes
use Rattle.layer_theory.proofs.LayerPlaces as places
use Rattle.layer_theory.proofs.LayerPaths as paths

module _ (w : View) (policy : Policy) (layered : Layered) (layering : IsLayering w policy layered) (rise : AllPairs (λ e f. nat_lt e.number f.number ≡ true) w.all.exceptions)
    (apart : All (λ l. All (λ x. l.pin.0 ≡ x.pin.0 → ⊥) w.all.captures) w.all.launches) where
  abbrev StandsAt : ℕ → ℕ → Class → Type 0
  StandsAt n v k = Stands layered.classes layered.nodes n v k

  -- an item's arc is one of the arcs
  pub item_arc-below : (i : ItemId) → i.0 < length layered.problem.items → (places.layer_item w policy layered layering i).arc.0 < length w.arcs
  item_arc-below i within =
      let x = places.layer_item w policy layered layering i in
      (nodes.IsItemSplit-from_item w rise (λ n. Unit {0}) x.arc (class_number layered.classes x.«class».0) (places.item-is w policy layered layering i within).item tt).below

  -- items in a ring would be arcs that lead back
  pub HasNoCycle-from_layering : (pins : ℕ) (order : List PinId) → IsTopological pins w.arcs order → ((i : ℕ) → i < length w.arcs → (arc_at w.arcs i).from < pins)
      → ((i : ℕ) → i < length w.arcs → (arc_at w.arcs i).to < pins) → HasNoCycle layered.problem
  HasNoCycle-from_layering pins order topological from_below to_below [] cycle = absurd cycle
  HasNoCycle-from_layering pins order topological from_below to_below (i ∷ is) cycle =
      let item = places.item-stands w policy layered layering i cycle.0.0 in
      let x = places.layer_item w policy layered layering i in
      let a = (item_at layered.problem.items i.0).from.0 in
      let u = (arc_at w.arcs x.arc.0).from in
      let k = class_number layered.classes x.«class».0 in
      let walk = paths.items-walk w policy layered layering rise apart (i ∷ is) a a u k cycle.0 item.from in
      let back = places.StandsAt-one_state w policy layered layering a walk.0 u (along (walk_of w) k (map (pin_behind (walk_of w)) (paths.arcs_of w policy layered layering rise apart (i ∷ is)))) k walk.1.1 item.from in
      let leads = nodes.Leads-from_joined w rise (paths.arcs_of w policy layered layering rise apart (i ∷ is)) u walk.0 walk.1.0 in
      Leads-never_back pins w.arcs order topological to_below x.arc (paths.arcs_of w policy layered layering rise apart is) u (from_below x.arc.0 leads.0)
      (subst (Leads w.arcs u (paths.arcs_of w policy layered layering rise apart (i ∷ is))) back.0 leads)

  -- a node stands for the last pin of items from a start, from which items go on to an end
  IsLive-from_split : (n v : ℕ) (k : Class) → StandsAt n v k → nodes.IsSplit w rise (λ n. Unit {0}) v k → IsLive layered.problem n
  IsLive-from_split n v k stands split =
      let reached = split.reached in
      let leads = split.leads in
      let onward = subst (LeadsOn (walk_of w) (EndsAt w) v) reached.class_is leads in
      let begins_reached = IsReached-begins (walk_of w) (BeginsAt w (λ n. Unit {0})) reached.pin reached.first reached.begins in
      let first_node = nodes.IsNode-from_split w rise apart (λ n. Unit {0}) reached.pin reached.first
      (record { reached = begins_reached; leads = LeadsOn-before (walk_of w) (EndsAt w) reached.pin reached.first reached.front v reached.joined onward }) in
      let first = places.node-placed w policy layered layering reached.pin reached.first first_node.0 in
      let walk = paths.walk-items w policy layered layering rise apart reached.front first.0 reached.pin v reached.first begins_reached reached.joined onward first.1 in
      let there = places.StandsAt-one_number w policy layered layering walk.1.0 n v k (subst (StandsAt walk.1.0 v) (sym reached.class_is) walk.1.1.1.0) stands in
      let l = launch_at w.all.launches reached.begins.launch in
      let start : Start = record { node = record { 0 = first.0 }; offset = l.offset } in
      let start_there = layering.starts.complete start (record {
        launch = reached.begins.launch;
        number = reached.begins.number;
        node = subst (λ u. StandsAt first.0 u (class_of w.all l (l.pin.0 ∷ []))) (sym reached.begins.pin_is) (subst (StandsAt first.0 reached.pin) reached.begins.class_is first.1);
        offset = refl;
      }) in
      let start_read = get_or_default layered.problem.starts start_there.0 (start_at [] 0) start start_there.1 ∙ start_there.2 in
      let rest = paths.walk-items w policy layered layering rise apart leads.rest n v leads.pin k reached leads.joined
      (record { rest = []; pin = leads.pin; joined = refl; ends = leads.ends }) stands in
      let end : End = record { node = record { 0 = rest.1.0 }; require = leads.ends.0 } in
      let end_there = layering.ends.complete end (record {
        pin = leads.pin;
        «class» = along (walk_of w) k (map (pin_behind (walk_of w)) leads.rest);
        node = rest.1.1.1.0;
        require = leads.ends.1;
      }) in
      let end_read = get_or_default layered.problem.ends end_there.0 (end_at [] 0) end end_there.1 ∙ end_there.2 in (
        record { start = start_there.0; items = walk.0; within = start_there.1; joined = rw start_read (subst (Joins layered.problem.items first.0 walk.0) there walk.1.1.0) },
        record { items = rest.0; end = end_there.0; within = end_there.1; joined = rw end_read rest.1.1.0 },
      )

  -- a path passes each node
  pub IsLive-from_layering : (n : ℕ) → n < layered.problem.nodes → IsLive layered.problem n
  IsLive-from_layering n below =
      let within : n < length layered.nodes = omega (arith, below, layering.node_count) in
      let d : LayerNode = record { pin = record { 0 = 0 }; «class» = record { 0 = 0 } } in
      let x = slice_index_or layered.nodes n d in
      let is = layering.nodes.sound n d within in
      IsLive-from_split n x.pin.0 (class_number layered.classes x.«class».0)
      (record { number = within; node = x; node_is = get_or_default layered.nodes n x d within; pin_is = refl; class_is = refl })
      (nodes.IsSplit-from_node w rise (λ n. Unit {0}) x.pin.0 (class_number layered.classes x.«class».0) is.node tt)

-- a problem in its ranges, with no cycle and with a path through each node, is refused for want of memory alone
pub check-refuses_nothing : (p : Problem) (fault : ProblemFault) → IsInRange p → HasNoCycle p → ((n : ℕ) → n < p.nodes → IsLive p n) → IsCheckAnswer p (Err fault) → fault ≡ NoMemory
check-refuses_nothing p (BadNode n) range none live answer = absurd (none-some n (sym range.nodes ∙ answer))
check-refuses_nothing p (BadBounds i) range none live answer = absurd (none-some i (sym range.bounds ∙ answer.1))
check-refuses_nothing p (BadTime n) range none live answer = absurd (none-some n (sym range.times ∙ answer.2))
check-refuses_nothing p (TooLarge count) range none live answer = absurd (none-some count (sym range.limits ∙ answer.3))
check-refuses_nothing p (Cycle items) range none live answer = absurd (none items answer.1)
check-refuses_nothing p (Dead n) range none live answer = absurd (answer.3 (live n.0 answer.2))
check-refuses_nothing p NoMemory range none live answer = refl
