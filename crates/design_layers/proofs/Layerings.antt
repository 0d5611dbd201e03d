-- What follows from a layering that is made of a design's parts: its answer, its soundness, its slack.
use Rattle.std.proofs.Common.{◌≡◌, ℕ, ◌<◌, ◌≤◌, List, [], ◌∷◌, ◌++◌, inl, inr, length, get_or, map, refl, sym, ap, subst, arith}
use Rattle.std.specs.Prelude.{Result, Ok, Err, IfOk}
use Rattle.std.proofs.lemmas.Bool.{cases_lt}
use Rattle.std.proofs.lemmas.List.{get_or_default}
use Rattle.std.proofs.lemmas.Slice.Zip.{AllZip-long}
use Rattle.bud_base.specs.Paths.{room}
use Rattle.bud_base.specs.declared.ids.ArcId.{ArcId}
use Rattle.bud_base.specs.Soundness.{IsListable, IsSound}
use Rattle.bud_design.specs.Arcs.{Arc, Graph, arc_at, Leads}
use Rattle.bud_design.specs.ConstraintRules.{AreSoundConstraints}
use Rattle.bud_design.specs.Correspondences.{Correspond}
use Rattle.bud_design.specs.DesignRules.{IsDesign}
use Rattle.bud_design.specs.Designs.{Design}
use Rattle.bud_design.specs.Layers.{IsLayering, IsNode, IsProblemItem, class_number}
use Rattle.bud_design.specs.TimingPaths.{launch_at, last_pin}
use Rattle.bud_design.specs.TimingRules.{IsSoundGraph, IsSoundLayered}
use Rattle.bud_design.specs.declared.clocks.Constraints.{Constraints}
use Rattle.bud_design.specs.declared.layers.Class.{Class}
use Rattle.bud_design.specs.declared.layers.LayerItem.{LayerItem}
use Rattle.bud_design.specs.declared.layers.Layered.{Layered}
use Rattle.bud_design.specs.declared.policies.Policy.{Policy}
use Rattle.layer_theory.specs.LayerAnswers.{IsLayerAnswer, IsAcceptedPolicy}
use Rattle.layer_theory.specs.declared.refusals.LayerFault.{LayerFault}
use Rattle.layer_theory.specs.declared.refusals.LayerFault.TheVariants.{UnknownArc, UnknownInstance, NestedBlocks, UnknownClock, TooManyStates, TooManyItems, NoMemory}
use Rattle.layer_theory.proofs.LayerCounts as counts
use Rattle.layer_theory.proofs.LayerPaths.{Correspond-from_layering}
use Rattle.layer_theory.proofs.LayerSlack as slacks
use Rattle.layer_theory.proofs.LayerSoundness.{item_arc-below}
use Rattle.path_classes.specs.Layering.{HasParts}
use Rattle.path_classes.proofs.PartLaws.{IsLayering-from_parts}
use Rattle.path_states.specs.Tables.{Table}
use Rattle.path_states.specs.Exploring.{IsExplored}
use Rattle.design_layers.specs.Checking.{IsCheckedAnswer}
use Rattle.design_layers.specs.GroupedStates.{ReachesTooMany, IsStatesAnswer, grouped_states}
use Rattle.design_layers.specs.Views.{whole_view, no_policy, arc_item, HasSlackOf}
use Rattle.design_layers.proofs.ArcItems.{HasArcs-whole}
use Rattle.design_layers.proofs.StateLimit.{HasManyStates-of, HasFewStates-of}
use Rattle.design_layers.proofs.ItemLimit.{HasManyItems-of, HasFewItems-of}

-- ---- the answer
module _ (d : Design) (g : Graph) (all : Constraints) (design : IsDesign d) (sound : IsSoundGraph d g) (constraints : AreSoundConstraints (length d.pins) all) where
  IsLayerAnswer-many_states : ReachesTooMany (map arc_item g.arcs) all → (count : ℕ) → count ≡ 8388609 → IsLayerAnswer (whole_view d g all) no_policy (Err (TooManyStates count))
  IsLayerAnswer-many_states too count is = (
    refl,
    HasManyStates-of (whole_view d g all) (map arc_item g.arcs) (HasArcs-whole d g all design sound) constraints.numbers too.table too.explored too.different too.more,
    is,
  )

  pub IsLayerAnswer-refused : (fault : LayerFault) → IsStatesAnswer (map arc_item g.arcs) all (Err fault) → IsLayerAnswer (whole_view d g all) no_policy (Err fault)
  IsLayerAnswer-refused (UnknownArc from to) answer = absurd answer
  IsLayerAnswer-refused (UnknownInstance name) answer = absurd answer
  IsLayerAnswer-refused (NestedBlocks a b) answer = absurd answer
  IsLayerAnswer-refused (UnknownClock name) answer = absurd answer
  IsLayerAnswer-refused (TooManyStates count) answer = IsLayerAnswer-many_states answer.0 count answer.1
  IsLayerAnswer-refused (TooManyItems count) answer = absurd answer
  IsLayerAnswer-refused NoMemory answer = tt

  accepted : (t : Table) → IsExplored (map arc_item g.arcs) all t → length (grouped_states all t) ≤ 8388608 → IsAcceptedPolicy (whole_view d g all) no_policy
  accepted t explored few = record {
    lines = refl;
    states = HasFewStates-of (whole_view d g all) (map arc_item g.arcs) (HasArcs-whole d g all design sound) constraints.numbers t explored few;
  }

  layering : (layered : Layered) → HasParts (map arc_item g.arcs) all 1 layered → IsLayering (whole_view d g all) no_policy layered
  layering layered parts =
      IsLayering-from_parts (whole_view d g all) no_policy (map arc_item g.arcs) layered (length d.pins) constraints (HasArcs-whole d g all design sound) refl refl parts

  pub IsLayerAnswer-many_items : (t : Table) → IsExplored (map arc_item g.arcs) all t → length (grouped_states all t) ≤ 8388608 → (layered : Layered) → HasParts (map arc_item g.arcs) all 1 layered
      → 4194304 < length layered.items → (count : ℕ) → count ≡ 4194305 → IsLayerAnswer (whole_view d g all) no_policy (Err (TooManyItems count))
  IsLayerAnswer-many_items t explored few layered parts more count is = (
    accepted t explored few,
    HasManyItems-of (whole_view d g all) no_policy layered (layering layered parts) constraints.numbers constraints.apart more,
    is,
  )

  pub IsLayerAnswer-layered : (t : Table) → IsExplored (map arc_item g.arcs) all t → length (grouped_states all t) ≤ 8388608 → (layered : Layered) → HasParts (map arc_item g.arcs) all 1 layered
      → length layered.items ≤ 4194304 → IsLayerAnswer (whole_view d g all) no_policy (Ok layered)
  IsLayerAnswer-layered t explored few layered parts most = (
    accepted t explored few,
    HasFewItems-of (whole_view d g all) no_policy layered (layering layered parts) constraints.numbers constraints.apart most,
    layering layered parts,
  )

-- ---- what holds of each layering with few items
last_pin-below : (pins : ℕ) (arcs : List Arc) → ((a : ℕ) → a < length arcs → (arc_at arcs a).to < pins) → (front rest : List ArcId) (v z : ℕ) → v < pins → Leads arcs v (front ++ rest) z
    → last_pin arcs v front < pins
last_pin-below pins arcs within [] rest v z below leads = below
last_pin-below pins arcs within (x ∷ xs) rest v z below leads = last_pin-below pins arcs within xs rest (arc_at arcs x.0).to z (within x.0 leads.0) leads.2

module _ (d : Design) (g : Graph) (all : Constraints) (sound : IsSoundGraph d g) (constraints : AreSoundConstraints (length d.pins) all) (policy : Policy) (layered : Layered) where
  module _ (layering : IsLayering (whole_view d g all) policy layered) where
    items-long : length layered.problem.items ≡ length layered.items
    items-long = AllZip-long (IsProblemItem (whole_view d g all) policy layered) layered.items layered.problem.items layering.problem_items

    node-below : (v : ℕ) (k : Class) → IsNode (whole_view d g all) v k → v < length d.pins
    node-below v k node =
        let path = node.constrained.is_path in
        let start = launch_at all.launches node.path.launch in
        let below = last_pin-below (length d.pins) g.arcs (λ a within. (sound.arcs a (arc_at [] 0) within).to) node.front node.rest start.pin.0 (last_pin g.arcs start.pin.0 node.path.arcs)
        (constraints.launch_pins node.path.launch (launch_at [] 0) path.launch) (subst (λ xs. Leads g.arcs start.pin.0 xs (last_pin g.arcs start.pin.0 node.path.arcs)) node.parts path.joined) in
        omega (arith, below, node.pin_is)

    pub IsSoundLayered-of : IsSound layered.problem → IsSoundLayered (length d.pins) (length g.arcs) layered
    IsSoundLayered-of problem = record {
      problem = problem;
      node_count = layering.node_count;
      item_count = items-long;
      nodes = λ i x below. node-below (get_or layered.nodes i x).pin.0 (class_number layered.classes (get_or layered.nodes i x).«class».0) (layering.nodes.sound i x below).node;
      node_classes = λ i x below. (layering.nodes.sound i x below).number;
      node_order = layering.nodes.rising;
      items = λ i x below.
          let there = item_arc-below (whole_view d g all) policy layered layering constraints.numbers constraints.apart (record { 0 = i }) (omega (arith, below, items-long)) in
          let read = get_or_default layered.items i x (record { arc = record { 0 = 0 }; «class» = record { 0 = 0 } }) below in
          omega (arith, there, ap (λ (y : LayerItem). y.arc.0) read);
      item_classes = λ i x below. (layering.items.sound i x below).number;
      item_order = layering.items.rising;
    }

    pub Correspond-of : Correspond (whole_view d g all) layered
    Correspond-of = Correspond-from_layering (whole_view d g all) policy layered layering constraints.numbers constraints.apart

    pub HasSlackOf-of : HasSlackOf (whole_view d g all) layered.problem
    HasSlackOf-of =
        let correspond = Correspond-of in
        record {
          least = λ s. (slacks.IsLeastPathSlack-from_problem (whole_view d g all) layered correspond s, slacks.IsLeastSlack-from_design (whole_view d g all) layered correspond s);
          none = (
            λ without path room constrained. let onto = correspond.onto path room constrained in without onto.0 onto.1.0,
            λ without p is_path. let back = correspond.back p is_path in without back.0 (room layered.problem p) back.1.1,
          );
        }

    IsListable-of : length layered.items ≤ 4194304 → IsListable layered.problem
    IsListable-of few =
        let limits = counts.IsWithinLimits-from_items (whole_view d g all) policy layered layering constraints.numbers constraints.apart (omega (arith, few, items-long)) in
        record { items = omega (arith, limits.items); starts = omega (arith, limits.starts); ends = omega (arith, limits.ends) }

  pub IsListable-answered : IsLayerAnswer (whole_view d g all) policy (Ok layered) → IsListable layered.problem
  IsListable-answered answer = elim (cases_lt 4194304 (length layered.items)) [
    | inl more ↦ absurd (answer.1 (HasManyItems-of (whole_view d g all) policy layered answer.2 constraints.numbers constraints.apart more))
    | inr few ↦ IsListable-of answer.2 few
  ]

  -- ---- the checked layering
  pub IsLayerAnswer-checked : IsLayerAnswer (whole_view d g all) policy (Ok layered) → (r : Result Layered LayerFault) → IsCheckedAnswer layered r → IsLayerAnswer (whole_view d g all) policy r
  IsLayerAnswer-checked answer (Ok same) checked = subst (λ x. IsLayerAnswer (whole_view d g all) policy (Ok x)) (sym checked.0) answer
  IsLayerAnswer-checked answer (Err (UnknownArc from to)) checked = absurd checked
  IsLayerAnswer-checked answer (Err (UnknownInstance name)) checked = absurd checked
  IsLayerAnswer-checked answer (Err (NestedBlocks a b)) checked = absurd checked
  IsLayerAnswer-checked answer (Err (UnknownClock name)) checked = absurd checked
  IsLayerAnswer-checked answer (Err (TooManyStates count)) checked = absurd checked
  IsLayerAnswer-checked answer (Err (TooManyItems count)) checked = absurd checked
  IsLayerAnswer-checked answer (Err NoMemory) checked = tt

  pub IfOk-checked : (P : Layered → Type 0) → (IsSound layered.problem → P layered) → (r : Result Layered LayerFault) → IsCheckedAnswer layered r → IfOk r P
  IfOk-checked P holds (Ok same) checked = subst P (sym checked.0) (holds checked.1)
  IfOk-checked P holds (Err fault) checked = tt
