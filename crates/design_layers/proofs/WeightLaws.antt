-- A layering under a policy is the one without, with other bounds and weights.
use Rattle.std.proofs.Common.{◌≡◌, ℕ, ◌<◌, ◌+◌, List, [], ◌∷◌, ◌++◌, length, get_or, drop, refl, sym, ◌∙◌, ap, subst, arith}
use Rattle.std.specs.Prelude.{Ok, Err, None}
use Rattle.std.specs.List.{AllZip}
use Rattle.std.proofs.lemmas.List.{drop_more, append_assoc, get_or_default}
use Rattle.std.proofs.lemmas.List.Elements.{All-from_get_or}
use Rattle.std.proofs.lemmas.Option.{none-some}
use Rattle.std.proofs.lemmas.Slice.Zip.{AllZip-long}
use Rattle.bud_base.specs.Paths.{item_at}
use Rattle.bud_base.specs.declared.problems.Item.{Item}
use Rattle.bud_design.specs.Arcs.{Graph, arc_at}
use Rattle.bud_design.specs.ConstraintRules.{AreSoundConstraints}
use Rattle.bud_design.specs.Designs.{Design}
use Rattle.bud_design.specs.Layers.{IsLayering, IsNode, IsProblemItem, class_number}
use Rattle.bud_design.specs.Policies.{Share, version_of}
use Rattle.bud_design.specs.TimingPaths.{View, launch_at}
use Rattle.bud_design.specs.TimingRules.{IsSoundGraph, IsDelay}
use Rattle.bud_design.specs.declared.clocks.Clock.{Clock}
use Rattle.bud_design.specs.declared.clocks.Constraints.{Constraints}
use Rattle.bud_design.specs.declared.layers.Class.{Class}
use Rattle.bud_design.specs.declared.layers.LayerItem.{LayerItem}
use Rattle.bud_design.specs.declared.layers.Layered.{Layered}
use Rattle.bud_design.specs.declared.policies.Policy.{Policy}
use Rattle.bud_design.specs.declared.policies.PolicyLine.{PolicyLine}
use Rattle.layer_theory.specs.LayerAnswers.{IsLayerAnswer}
use Rattle.layer_theory.specs.PolicyRefusals.{policy_fault}
use Rattle.layer_theory.specs.declared.refusals.LayerFault.{LayerFault}
use Rattle.layer_theory.specs.declared.refusals.LayerFault.TheVariants.{UnknownArc, UnknownInstance, NestedBlocks, UnknownClock, TooManyStates, TooManyItems, NoMemory}
use Rattle.layer_theory.proofs.LayerPlaces as places
use Rattle.layer_theory.proofs.LayerSoundness.{item_arc-below}
use Rattle.policy_lines.specs.Refusals.{IsFaultOf}
use Rattle.design_layers.specs.Views.{whole_view, no_policy}
use Rattle.design_layers.specs.Weights.{share_at, weighted, weighted_items, layered_with, CanWeigh}

abbrev pub layer_item_at : List LayerItem → ℕ → LayerItem
layer_item_at xs i = get_or xs i (record { arc = record { 0 = 0 }; «class» = record { 0 = 0 } })

-- one item more
pub weighted-more : (given : LayerItem → Share) (xs : List LayerItem) (items old new : List Item) (n : ℕ) (y : Item) → n < length xs → length items ≡ length xs
    → weighted_items given xs items ≡ old ++ weighted_items given (drop n xs) (drop n items) → new ≡ old ++ y ∷ [] → y ≡ weighted (given (layer_item_at xs n)) (item_at items n)
    → weighted_items given xs items ≡ new ++ weighted_items given (drop (n + 1) xs) (drop (n + 1) items)
weighted-more given xs items old new n y below long built new_is y_is =
    let x = layer_item_at xs n in
    let i = item_at items n in
    let front : drop n xs ≡ x ∷ drop (n + 1) xs = drop_more xs n (layer_item_at [] 0) below in
    let front_items : drop n items ≡ i ∷ drop (n + 1) items = drop_more items n (item_at [] 0) (omega (arith, below, long)) in
    let rest = weighted_items given (drop (n + 1) xs) (drop (n + 1) items) in
    built
    ∙ (ap (λ us. old ++ weighted_items given us (drop n items)) front
    ∙ (ap (λ js. old ++ weighted_items given (x ∷ drop (n + 1) xs) js) front_items
    ∙ (ap (λ z. old ++ z ∷ rest) (sym y_is) ∙ (sym (append_assoc old (y ∷ []) rest) ∙ ap (λ us. us ++ rest) (sym new_is)))))

AllZip-weighted : (R S : LayerItem → Item → Type 0) (given : LayerItem → Share) → ((x : LayerItem) (i : Item) → R x i → S x (weighted (given x) i)) → (xs : List LayerItem) (items : List Item)
    → AllZip R xs items → AllZip S xs (weighted_items given xs items)
AllZip-weighted R S given onto [] [] zip = tt
AllZip-weighted R S given onto [] (i ∷ is) zip = absurd zip
AllZip-weighted R S given onto (x ∷ xs) [] zip = absurd zip
AllZip-weighted R S given onto (x ∷ xs) (i ∷ is) zip = (onto x i zip.0, AllZip-weighted R S given onto xs is zip.1)

module _ (w : View) (policy : Policy) (plain : Layered) (layering : IsLayering w no_policy plain) where
  abbrev given : LayerItem → Share
  given = share_at w.design w.arcs w.all.clocks policy.lines plain.classes

  abbrev weighed : Layered
  weighed = layered_with plain (weighted_items given plain.items plain.problem.items) (version_of policy)

  item-weighted : (x : LayerItem) (i : Item) → IsProblemItem w no_policy plain x i → IsProblemItem w policy weighed x (weighted (given x) i)
  item-weighted x i is = record { from = is.from; to = is.to; least = is.least; greatest = refl; weight = refl }

  pub IsLayering-weighted : IsLayering w policy weighed
  IsLayering-weighted = record {
    classes = layering.classes;
    nodes = layering.nodes;
    items = layering.items;
    node_count = layering.node_count;
    problem_items = AllZip-weighted (IsProblemItem w no_policy plain) (IsProblemItem w policy weighed) given item-weighted plain.items plain.problem.items layering.problem_items;
    starts = record {
      rising = layering.starts.rising;
      sound = λ k d below. let s = layering.starts.sound k d below in record { launch = s.launch; number = s.number; node = s.node; offset = s.offset };
      complete = λ s is. layering.starts.complete s (record { launch = is.launch; number = is.number; node = is.node; offset = is.offset });
    };
    ends = record {
      rising = layering.ends.rising;
      sound = λ k d below. let e = layering.ends.sound k d below in record { pin = e.pin; «class» = e.«class»; node = e.node; require = e.require };
      complete = λ e is. layering.ends.complete e (record { pin = is.pin; «class» = is.«class»; node = is.node; require = is.require });
    };
    version = refl;
  }

  -- ---- the answer under the policy
  pub IsLayerAnswer-weighted : policy_fault w.design w.arcs w.all.clocks policy.lines ≡ None → IsLayerAnswer w no_policy (Ok plain) → IsLayerAnswer w policy (Ok weighed)
  IsLayerAnswer-weighted none answer = (record { lines = none; states = answer.0.states }, answer.1, IsLayering-weighted)

module _ (w : View) (policy : Policy) where
  pub IsLayerAnswer-line : (fault : LayerFault) → IsFaultOf (policy_fault w.design w.arcs w.all.clocks policy.lines) fault → IsLayerAnswer w policy (Err fault)
  IsLayerAnswer-line (UnknownArc from to) is = is
  IsLayerAnswer-line (UnknownInstance name) is = is
  IsLayerAnswer-line (NestedBlocks a b) is = is
  IsLayerAnswer-line (UnknownClock name) is = is
  IsLayerAnswer-line (TooManyStates count) is = absurd is
  IsLayerAnswer-line (TooManyItems count) is = absurd is
  IsLayerAnswer-line NoMemory is = tt

  pub IsLayerAnswer-limit : policy_fault w.design w.arcs w.all.clocks policy.lines ≡ None → (fault : LayerFault) → IsLayerAnswer w no_policy (Err fault) → IsLayerAnswer w policy (Err fault)
  IsLayerAnswer-limit none (UnknownArc from to) answer = absurd (none-some (UnknownArc from to) answer)
  IsLayerAnswer-limit none (UnknownInstance name) answer = absurd (none-some (UnknownInstance name) answer)
  IsLayerAnswer-limit none (NestedBlocks a b) answer = absurd (none-some (NestedBlocks a b) answer)
  IsLayerAnswer-limit none (UnknownClock name) answer = absurd (none-some (UnknownClock name) answer)
  IsLayerAnswer-limit none (TooManyStates count) answer = (none, answer.1, answer.2)
  IsLayerAnswer-limit none (TooManyItems count) answer = (record { lines = none; states = answer.0.states }, answer.1, answer.2)
  IsLayerAnswer-limit none NoMemory answer = tt

pub IsLayerAnswer-made : (d : Design) (g : Graph) (all : Constraints) (policy : Policy) (plain : Layered) (clocks : List Clock) (lines : List PolicyLine) (layered : Layered) → clocks ≡ all.clocks
    → lines ≡ policy.lines → policy_fault d g.arcs clocks lines ≡ None → IsLayerAnswer (whole_view d g all) no_policy (Ok plain)
    → layered ≡ layered_with plain (weighted_items (share_at d g.arcs clocks policy.lines plain.classes) plain.items plain.problem.items) (version_of policy) → IsLayerAnswer (whole_view d g all) policy (Ok layered)
IsLayerAnswer-made d g all policy plain clocks lines layered clocks_are lines_are none answer is =
    let accepted : policy_fault d g.arcs all.clocks policy.lines ≡ None
    = subst (λ cs. policy_fault d g.arcs cs policy.lines ≡ None) clocks_are (subst (λ ls. policy_fault d g.arcs clocks ls ≡ None) lines_are none) in
    let made : layered ≡ layered_with plain (weighted_items (share_at d g.arcs all.clocks policy.lines plain.classes) plain.items plain.problem.items) (version_of policy)
    = is ∙ ap (λ cs. layered_with plain (weighted_items (share_at d g.arcs cs policy.lines plain.classes) plain.items plain.problem.items) (version_of policy)) clocks_are in
    subst (λ x. IsLayerAnswer (whole_view d g all) policy (Ok x)) (sym made) (IsLayerAnswer-weighted (whole_view d g all) policy plain answer.2 accepted answer)

pub IsLayerAnswer-unlined : (d : Design) (g : Graph) (all : Constraints) (policy : Policy) (clocks : List Clock) (lines : List PolicyLine) (fault : LayerFault) → clocks ≡ all.clocks → lines ≡ policy.lines
    → IsFaultOf (policy_fault d g.arcs clocks lines) fault → IsLayerAnswer (whole_view d g all) policy (Err fault)
IsLayerAnswer-unlined d g all policy clocks lines fault clocks_are lines_are is =
    IsLayerAnswer-line (whole_view d g all) policy fault
    (subst (λ cs. IsFaultOf (policy_fault d g.arcs cs policy.lines) fault) clocks_are (subst (λ ls. IsFaultOf (policy_fault d g.arcs clocks ls) fault) lines_are is))

pub IsLayerAnswer-unlimited : (d : Design) (g : Graph) (all : Constraints) (policy : Policy) (clocks : List Clock) (lines : List PolicyLine) (fault : LayerFault) → clocks ≡ all.clocks → lines ≡ policy.lines
    → policy_fault d g.arcs clocks lines ≡ None → IsLayerAnswer (whole_view d g all) no_policy (Err fault) → IsLayerAnswer (whole_view d g all) policy (Err fault)
IsLayerAnswer-unlimited d g all policy clocks lines fault clocks_are lines_are none answer =
    IsLayerAnswer-limit (whole_view d g all) policy
    (subst (λ cs. policy_fault d g.arcs cs policy.lines ≡ None) clocks_are (subst (λ ls. policy_fault d g.arcs clocks ls ≡ None) lines_are none)) fault answer

-- ---- items of a layering can be weighed
module _ (d : Design) (g : Graph) (all : Constraints) (sound : IsSoundGraph d g) (constraints : AreSoundConstraints (length d.pins) all) (plain : Layered)
    (layering : IsLayering (whole_view d g all) no_policy plain) where
  items-long : length plain.problem.items ≡ length plain.items
  items-long = AllZip-long (IsProblemItem (whole_view d g all) no_policy plain) plain.items plain.problem.items layering.problem_items

  node-clock : (v : ℕ) (k : Class) → IsNode (whole_view d g all) v k → k.clock < length all.clocks
  node-clock v k node =
      let below = constraints.launch_clocks node.path.launch (launch_at [] 0) node.constrained.is_path.launch in
      omega (arith, below, ap (λ (j : Class). j.clock) node.class_is)

  class-clock : (c : ℕ) → c < length plain.classes → (class_number plain.classes c).clock < length all.clocks
  class-clock c below = let live = layering.classes.live c (class_number [] 0) below in node-clock live.0 (class_number plain.classes c) live.1

  arc-below : (i : ℕ) (x : LayerItem) → i < length plain.items → (get_or plain.items i x).arc.0 < length g.arcs
  arc-below i x below =
      let there = item_arc-below (whole_view d g all) no_policy plain layering constraints.numbers constraints.apart (record { 0 = i }) (omega (arith, below, items-long)) in
      omega (arith, there, ap (λ (y : LayerItem). y.arc.0) (get_or_default plain.items i x (record { arc = record { 0 = 0 }; «class» = record { 0 = 0 } }) below))

  least-of : (i : ℕ) → i < length plain.problem.items → IsDelay (item_at plain.problem.items i).least
  least-of i below =
      let stands = places.item-stands (whole_view d g all) no_policy plain layering (record { 0 = i }) below in
      let there = item_arc-below (whole_view d g all) no_policy plain layering constraints.numbers constraints.apart (record { 0 = i }) below in
      subst IsDelay (sym stands.least) (sound.arcs _ (arc_at [] 0) there).least

  pub CanWeigh-of : CanWeigh d g.arcs all.clocks plain
  CanWeigh-of = record {
    as_many = items-long;
    arcs_below = arc-below;
    homes = λ a below. (sound.arcs a (arc_at [] 0) below).home;
    clocks_below = λ i x below.
        let number = (layering.items.sound i x below).number in
        record { «class» = number; clock = class-clock (get_or plain.items i x).«class».0 number };
    leasts = All-from_get_or (λ (item : Item). IsDelay item.least) plain.problem.items (item_at [] 0) least-of;
  }
