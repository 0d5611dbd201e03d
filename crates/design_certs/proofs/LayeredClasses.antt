-- The classes of a layering: how many there are, and those of items.
use Rattle.std.specs.Prelude.{◌≡◌, ℕ, ◌<◌, ◌≤◌, ◌^◌, [], length}
use Rattle.std.proofs.Common.{◌∙◌, ap, arith}
use Rattle.std.proofs.lemmas.List.{get_or_default}
use Rattle.bud_base.specs.Paths.{item_at}
use Rattle.bud_design.specs.Layers.{class_number, Stands, IsLayering}
use Rattle.bud_design.specs.TimingPaths.{View}
use Rattle.bud_design.specs.declared.layers.LayerNode.{LayerNode}
use Rattle.bud_design.specs.declared.layers.Layered.{Layered}
use Rattle.bud_design.specs.declared.policies.Policy.{Policy}
use Rattle.layer_theory.proofs.LayerPlaces as places
use Rattle.layer_theory.proofs.LayerCounts.{at_most}
use Rattle.design_certs.specs.DesignCerts.{node_at, IsOfDesign, class_of_item, item_class}

module _ (w : View) (policy : Policy) (layered : Layered) (layering : IsLayering w policy layered) (sound : IsOfDesign layered w.design) where
  -- a node of the class
  record HasNode (c : ℕ) : Type 0 where
    number : ℕ
    pin : ℕ
    stands : Stands layered.classes layered.nodes number pin (class_number layered.classes c)

  has-node : (c : ℕ) → c < length layered.classes → HasNode c
  has-node c below =
      let live = layering.classes.live c (class_number [] 0) below in
      let there = places.node-placed w policy layered layering live.0 (class_number layered.classes c) live.1 in
      record { number = there.0; pin = live.0; stands = there.1 }

  one-class : (c e : ℕ) (first : c < length layered.classes) (second : e < length layered.classes) → (a : HasNode c) → (b : HasNode e) → a.number ≡ b.number → c ≡ e
  one-class c e first second a b same =
      let moved : Stands layered.classes layered.nodes a.number b.pin (class_number layered.classes e) = rw same b.stands in
      places.class-one w policy layered layering c e first second
      (places.StandsAt-one_state w policy layered layering a.number a.pin b.pin (class_number layered.classes c) (class_number layered.classes e) a.stands moved).1

  pub few-classes : length layered.classes < 2 ^ 32
  few-classes =
      let most : length layered.classes ≤ length layered.nodes
      = at_most (length layered.classes) (length layered.nodes) (λ c below. (has-node c below).number) (λ c below. (has-node c below).stands.number)
      (λ c e first second same. one-class c e first second (has-node c first) (has-node e second) same) in
      omega (arith, most, sound.1.node_count, sound.1.problem.limits.nodes)

  pub item-class : (i : ℕ) → i < length layered.problem.items → class_of_item layered i ≡ item_class layered i
  item-class i within =
      let stands = (places.item-stands w policy layered layering (record { 0 = i }) within).from in
      let n = (item_at layered.problem.items i).from.0 in
      let d = node_at [] 0 in
      let node = get_or_default layered.nodes n d stands.node stands.number ∙ stands.node_is in
      places.class-one w policy layered layering (class_of_item layered i) (item_class layered i)
      (sound.1.node_classes n d stands.number)
      (places.item-is w policy layered layering (record { 0 = i }) within).number
      (ap (λ (x : LayerNode). class_number layered.classes x.«class».0) node ∙ stands.class_is)
