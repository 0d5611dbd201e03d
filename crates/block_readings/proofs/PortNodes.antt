-- The nodes at a block's port bits: each has a class at its ports, and no two have one pin and one class. There are few classes.
use Rattle.std.specs.Prelude.{◌≡◌, ℕ, zero, suc, ◌^◌, ◌<◌, ◌≤◌, ◌==◌, ◌&&◌, ◌||◌, nat_lt, ℤ, Bool, true, false, List, [], ◌∷◌, ◌++◌, length, flat_map, All, AllPairs, Contains, None, slice_index_or}
use Rattle.std.specs.List.{range_with_len}
use Rattle.std.proofs.Common.{true≢false, refl, sym, ◌∙◌, ap, subst, arith, inl, inr}
use Rattle.std.proofs.lemmas.Bool.{cases_lt, cases_eq}
use Rattle.std.proofs.lemmas.Bool.Decides.{Decides-eqb}
use Rattle.std.proofs.lemmas.List.{get_or_default}
use Rattle.std.proofs.lemmas.List.Elements.{All-weaker, filter_passes, Contains-append_left, Contains-append_right, Contains-get_or}
use Rattle.std.proofs.lemmas.List.Kept.{AllPairs-filter}
use Rattle.bud_design.specs.declared.layers.LayerNode.{LayerNode}
use Rattle.bud_design.specs.declared.policies.NumberedCommand.{NumberedCommand}
use Rattle.bud_design.specs.declared.policies.Policy.{Policy}
use Rattle.bud_design.specs.Arcs.{Arc}
use Rattle.bud_design.specs.Designs.{pin_at, bits_of, input_bits, output_bits, is_input, is_output}
use Rattle.bud_design.specs.Layers.{class_number, Stands}
use Rattle.bud_design.specs.TimingPaths.{View}
use Rattle.clock_reach.specs.Reached.{AreReached}
use Rattle.layer_theory.proofs.LayerPlaces as places
use Rattle.requirements.proofs.DelayLaws.{keys-same}
use Rattle.timing_scopes.specs.Resolving.{same_place}
use Rattle.block_theory.specs.BlockPorts.{Context, node_at, node_class, nodes_at, input_nodes, output_nodes, port_classes}
use Rattle.block_theory.specs.Blocks.{IsBlock, is_input_of, is_output_of, through_inside}
use Rattle.block_theory.specs.BlockScopes.{delay_as}
use Rattle.block_theory.specs.Pieces.{top_view}
use Rattle.block_theory.proofs.Insides.{and-true}
use Rattle.block_laws.specs.LayeredDesigns.{IsLayeredDesign}
use Rattle.block_pieces.proofs.FileReadings.{node-from, class-in, bit-from, out-from}
use Rattle.block_pieces.proofs.Numbering.{Rise, place_in-same, filtered-rise}
use Rattle.block_names.specs.PartReadings.{IsDelayNode}
use Rattle.block_readings.proofs.Lists.{Apart, rise-apart, concat-apart}

module _ (x : Context) (arcs : List Arc) (commands : List NumberedCommand) (policy : Policy) (given : IsLayeredDesign x.design x.timing arcs commands x.all policy x.layered)
    (block_is : IsBlock x.design x.block) (through : through_inside x.design (x.block ∷ []) x.all.exceptions ≡ None) (reached : AreReached x.design 0 x.all.clocks x.reached) where
  abbrev read : View
  read = top_view x arcs x.all

  abbrev pin_of : ℕ → ℕ
  pin_of n = (node_at x.layered.nodes n).pin.0

  abbrev inputs : List ℕ
  inputs = input_nodes x.design x.layered x.block

  abbrev outputs : List ℕ
  outputs = output_nodes x.design x.layered x.block

  -- ---- each node at a port bit
  node-is : (n : ℕ) → n < length x.layered.nodes → (pin_at x.design.pins (pin_of n)).place ≡ x.block → Contains (port_classes x) (node_class x.layered n) → IsDelayNode x n
  node-is n below place «class» = record { below = given.layered_sound.nodes n (node_at [] 0) below; place = place; «class» = «class» }

  pub input-is : (n : ℕ) → Contains inputs n → is_input_of x.design x.block (pin_of n) ≡ true
  input-is n there =
      bit-from x arcs commands policy given block_is through reached (pin_of n) (node-from x arcs commands policy given block_is through reached (input_bits x.design x.block) n there).1

  pub output-is : (n : ℕ) → Contains outputs n → is_output_of x.design x.block (pin_of n) ≡ true
  output-is n there =
      out-from x arcs commands policy given block_is through reached (pin_of n) (node-from x arcs commands policy given block_is through reached (output_bits x.design x.block) n there).1

  in-place : (n : ℕ) (b : Bool) → ((pin_at x.design.pins (pin_of n)).place == x.block) ≡ b → b ≡ true → (pin_at x.design.pins (pin_of n)).place ≡ x.block
  in-place n b is passes = (Decides-eqb (pin_at x.design.pins (pin_of n)).place x.block).0 (is ∙ passes)

  pub inputs-are : All (IsDelayNode x) inputs
  inputs-are i e less =
      let n = slice_index_or inputs i e in
      let there = Contains-get_or inputs i e less in
      let below = (node-from x arcs commands policy given block_is through reached (input_bits x.design x.block) n there).0 in
      let both = and-true ((pin_at x.design.pins (pin_of n)).place == x.block) (is_input (pin_at x.design.pins (pin_of n)).dir) (input-is n there) in
      node-is n below (in-place n ((pin_at x.design.pins (pin_of n)).place == x.block) refl both.0)
      (class-in x arcs commands policy given block_is through reached (inputs ++ outputs) n (Contains-append_left inputs outputs n there) below)

  pub outputs-are : All (IsDelayNode x) outputs
  outputs-are i e less =
      let n = slice_index_or outputs i e in
      let there = Contains-get_or outputs i e less in
      let below = (node-from x arcs commands policy given block_is through reached (output_bits x.design x.block) n there).0 in
      let both = and-true ((pin_at x.design.pins (pin_of n)).place == x.block) (is_output (pin_at x.design.pins (pin_of n)).dir) (output-is n there) in
      node-is n below (in-place n ((pin_at x.design.pins (pin_of n)).place == x.block) refl both.0)
      (class-in x arcs commands policy given block_is through reached (inputs ++ outputs) n (Contains-append_right inputs outputs n there) below)

  -- ---- no two are one
  at-pin : (v : ℕ) → All (λ n. pin_of n ≡ v) (nodes_at x.layered v)
  at-pin v =
      All-weaker (λ n. (pin_of n == v) ≡ true) (λ n. pin_of n ≡ v) (λ n is. (Decides-eqb (pin_of n) v).0 is) (nodes_at x.layered v)
      (filter_passes (λ n. pin_of n == v) (range_with_len 0 (length x.layered.nodes)))

  nodes-apart : (vs : List ℕ) → Rise vs → Apart (flat_map (nodes_at x.layered) vs)
  nodes-apart vs rise =
      concat-apart (nodes_at x.layered) pin_of at-pin vs (rise-apart vs rise)
      (λ v. rise-apart (nodes_at x.layered v) (filtered-rise (λ n. pin_of n == v) (length x.layered.nodes)))

  bits-rise : Rise (bits_of x.design x.block)
  bits-rise = filtered-rise (λ v. (pin_at x.design.pins v).place == x.block) (length x.design.pins)

  inputs-apart : Apart inputs
  inputs-apart = nodes-apart (input_bits x.design x.block) (AllPairs-filter (λ m n. m < n) (λ v. is_input (pin_at x.design.pins v).dir) (bits_of x.design x.block) bits-rise)

  outputs-apart : Apart outputs
  outputs-apart = nodes-apart (output_bits x.design x.block) (AllPairs-filter (λ m n. m < n) (λ v. is_output (pin_at x.design.pins v).dir) (bits_of x.design x.block) bits-rise)

  stands : (n : ℕ) → n < length x.layered.nodes → Stands x.layered.classes x.layered.nodes n (pin_of n) (class_number x.layered.classes (node_class x.layered n))
  stands n below = places.StandsAt-from_read read policy x.layered given.layering n (node_at [] 0) below

  -- so no two delays stand at one place
  module _ (amount : ℕ → ℤ) where
    differ-places : (m n : ℕ) → m < length x.layered.nodes → n < length x.layered.nodes → IsDelayNode x m → IsDelayNode x n → (m ≡ n → ⊥) → same_place (delay_as x amount m) (delay_as x amount n) ≡ false
    differ-places m n belowm belown ism isn other = by_test (same_place (delay_as x amount m) (delay_as x amount n)) refl
      where
        by_test : (b : Bool) → same_place (delay_as x amount m) (delay_as x amount n) ≡ b → b ≡ false
        by_test false is = refl
        by_test true is =
            let keys = keys-same (delay_as x amount m) (delay_as x amount n) is in
            let class_same = place_in-same (port_classes x) (node_class x.layered m) (node_class x.layered n) ism.«class» isn.«class» (omega (arith, keys.clock)) in
            let there : Stands x.layered.classes x.layered.nodes n (pin_of m) (class_number x.layered.classes (node_class x.layered m))
            = subst (λ v. Stands x.layered.classes x.layered.nodes n v (class_number x.layered.classes (node_class x.layered m))) (sym keys.pin)
            (subst (λ k. Stands x.layered.classes x.layered.nodes n (pin_of n) (class_number x.layered.classes k)) (sym class_same) (stands n belown)) in
            absurd (other (places.StandsAt-one_number read policy x.layered given.layering m n (pin_of m) (class_number x.layered.classes (node_class x.layered m)) (stands m belowm) there))

    apart-places : (ns : List ℕ) → All (IsDelayNode x) ns → All (λ n. n < length x.layered.nodes) ns → Apart ns
        → AllPairs (λ m n. (same_place (delay_as x amount m) (delay_as x amount n) ≡ false) × (same_place (delay_as x amount n) (delay_as x amount m) ≡ false)) ns
    apart-places ns are within apart i j d less below =
        let m = slice_index_or ns i d in
        let n = slice_index_or ns j d in
        let first : i < length ns = omega (arith, less, below) in (
          differ-places m n (within i d first) (within j d below) (are i d first) (are j d below) (apart i j d less below),
          differ-places n m (within j d below) (within i d first) (are j d below) (are i d first) (λ same. apart i j d less below (sym same)),
        )

    pub inputs-differ : AllPairs (λ m n. (same_place (delay_as x amount m) (delay_as x amount n) ≡ false) × (same_place (delay_as x amount n) (delay_as x amount m) ≡ false)) inputs
    inputs-differ = apart-places inputs inputs-are
        (λ i e less. (node-from x arcs commands policy given block_is through reached (input_bits x.design x.block) (slice_index_or inputs i e) (Contains-get_or inputs i e less)).0) inputs-apart

    pub outputs-differ : AllPairs (λ m n. (same_place (delay_as x amount m) (delay_as x amount n) ≡ false) × (same_place (delay_as x amount n) (delay_as x amount m) ≡ false)) outputs
    outputs-differ = apart-places outputs outputs-are
        (λ i e less. (node-from x arcs commands policy given block_is through reached (output_bits x.design x.block) (slice_index_or outputs i e) (Contains-get_or outputs i e less)).0) outputs-apart

  -- ---- each class has a node, and nodes stand by class, so that there are at most as many classes
  record HasNodeOf (k : ℕ) : Type 0 where
    pub number : ℕ
    pub below : number < length x.layered.nodes
    pub is : node_class x.layered number ≡ k

  node-of : (k : ℕ) → k < length x.layered.classes → HasNodeOf k
  node-of k below =
      let live = given.layering.classes.live k (class_number [] 0) below in
      let node : LayerNode = record { pin = record { 0 = live.0 }; «class» = record { 0 = k } } in
      let there = given.layering.nodes.complete node (record { number = below; node = live.1 }) in
      record {
        number = there.0;
        below = there.1;
        is = ap (λ (n : LayerNode). n.«class».0) (get_or_default x.layered.nodes there.0 (node_at [] 0) node there.1 ∙ there.2);
      }

  classes-rise : (m n : ℕ) → m < n → n < length x.layered.nodes → node_class x.layered m ≤ node_class x.layered n
  classes-rise m n less below =
      by_class (node_class x.layered m) (node_class x.layered n) (nat_lt (pin_of m) (pin_of n)) (given.layered_sound.node_order m n (node_at [] 0) less below)
    where
      by_class : (a b : ℕ) (rest : Bool) → nat_lt a b || (a == b && rest) ≡ true → a ≤ b
      by_class a b rest before = elim (cases_lt b a) [
        | inl more ↦ (let none : nat_lt a b ≡ false = grind (arith, more) in let differ : (a == b) ≡ false = grind (arith, more) in absurd (true≢false (sym before ∙ rw (none, differ) refl)))
        | inr most ↦ omega (arith, most)
      ]

  class-count : (k : ℕ) → k < length x.layered.classes → (n : ℕ) → n < length x.layered.nodes → node_class x.layered n ≡ k → k ≤ n
  class-count zero below n within is = omega arith
  class-count (suc k) below n within is =
      let first = node-of k (omega (arith, below)) in
      let before = class-count k (omega (arith, below)) first.number first.below first.is in
      elim (cases_lt first.number n) [
        | inl less ↦ omega (arith, less, before)
        | inr most ↦ elim (cases_eq n first.number) [
          | inl same ↦ absurd (omega (arith, is, first.is, ap (node_class x.layered) same))
          | inr other ↦ absurd (omega (arith, is, first.is, classes-rise n first.number (omega (arith, most, other)) first.below))
        ]
      ]

  class-below_nodes : (k : ℕ) → k < length x.layered.classes → k < length x.layered.nodes
  class-below_nodes k below = (let node = node-of k below in omega (arith, node.below, class-count k below node.number node.below node.is))

  pub few-classes : length x.layered.classes ≤ 2 ^ 64
  few-classes = by_length (length x.layered.classes) refl
    where
      by_length : (n : ℕ) → length x.layered.classes ≡ n → n ≤ 2 ^ 64
      by_length zero is = omega arith
      by_length (suc n) is =
          omega (arith, class-below_nodes n (omega (arith, is)), given.layered_sound.node_count, given.layered_sound.problem.limits.nodes)
