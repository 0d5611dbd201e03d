-- The launches and captures that a block's file gives the block's design, from what its commands say.
use Rattle.std.specs.Prelude.{◌≡◌, ◌⊎◌, ℕ, suc, ◌<◌, ◌==◌, ℤ, pos, Bool, true, false, List, [], ◌∷◌, map, filter, flat_map, length, Contains, None}
use Rattle.std.specs.List.{list_any, range_with_len}
use Rattle.std.proofs.Common.{true≢false, refl, sym, ◌∙◌, ap, subst, arith, inl, inr, eq-eqb}
use Rattle.std.proofs.lemmas.Bool.Decides.{Decides-eqb, Decides-ltb}
use Rattle.std.proofs.lemmas.List.{get_or_default}
use Rattle.std.proofs.lemmas.List.Concat.{flat_map-cons}
use Rattle.std.proofs.lemmas.List.Elements.{All-contains, Contains-append_cases, Contains-append_left, Contains-append_right}
use Rattle.bud_base.specs.declared.ids.PinId.{PinId}
use Rattle.bud_syntax.specs.declared.edges.Edge.{Edge}
use Rattle.bud_design.specs.declared.clocks.Capture.{Capture}
use Rattle.bud_design.specs.declared.clocks.Clock.{Clock}
use Rattle.bud_design.specs.declared.clocks.Constraints.{Constraints}
use Rattle.bud_design.specs.declared.clocks.Launch.{Launch}
use Rattle.bud_design.specs.declared.layers.Class.{Class}
use Rattle.bud_design.specs.declared.policies.NumberedCommand.{NumberedCommand}
use Rattle.bud_design.specs.declared.policies.Policy.{Policy}
use Rattle.bud_design.specs.declared.timings.Check.{Check}
use Rattle.bud_design.specs.declared.timings.LaunchEdge.{LaunchEdge}
use Rattle.bud_design.specs.Arcs.{Arc, is_clocked}
use Rattle.bud_design.specs.Clocks.{clock_at, Reaches}
use Rattle.bud_design.specs.Designs.{pin_at, is_inside, is_input, is_output, is_pin_of, bits_of, input_bits, output_bits}
use Rattle.bud_design.specs.Layers.{class_number, Stands}
use Rattle.bud_design.specs.Lists.{Lists}
use Rattle.bud_design.specs.Orders.{launch_before, capture_before, edge_pin_before}
use Rattle.bud_design.specs.TimingPaths.{View, launch_at}
use Rattle.bud_flow.specs.Sums.{number_at}
use Rattle.clock_reach.specs.Reached.{AreSources, AreReached}
use Rattle.clock_reach.proofs.ReachLaws.{place-any}
use Rattle.layer_theory.proofs.LayerPlaces as places
use Rattle.requirements.specs.Constraining.{IsLaunch, IsCapture, AreConstraints}
use Rattle.requirements.proofs.Members.{contains-cases, contains-map, members-related, some-same}
use Rattle.requirements.specs.SoundScopes.{IsDelayAs}
use Rattle.requirements.proofs.ScopeLaws.{IsResult, resolved-sound}
use Rattle.requirements.proofs.SourceLaws.{sources-are, pin-inside, input-top, output-top}
use Rattle.bud_design.specs.TimingRules.{IsSoundCheck}
use Rattle.timing_objects.specs.declared.things.Role.TheVariants.{Input, Output}
use Rattle.block_theory.specs.Composition.{check_at}
use Rattle.timing_objects.specs.Objects.{Subject, is_checked}
use Rattle.timing_scopes.specs.declared.scopes.PinDelay.{PinDelay}
use Rattle.timing_scopes.specs.declared.scopes.Scope.{Scope}
use Rattle.block_theory.specs.BlockExceptions.{own_class}
use Rattle.block_theory.specs.BlockFiles.{input_amount, output_amount}
use Rattle.block_theory.specs.BlockPorts.{Context, node_at, node_class, nodes_at, classes_of, input_nodes, output_nodes}
use Rattle.block_theory.specs.Blocks.{IsBlock, is_input_of, is_output_of, through_inside}
use Rattle.block_theory.specs.BlockScopes.{block_scope, delay_as, real_number, virtual_number, first_form}
use Rattle.block_theory.specs.Meeting.{Numbers, subject_with, timing_with}
use Rattle.block_theory.specs.Pieces.{top_view}
use Rattle.block_theory.proofs.Groups.{groups-lack}
use Rattle.block_theory.proofs.Insides.{and-true, leaf-no_input, leaf-no_output}
use Rattle.block_laws.specs.LayeredDesigns.{IsLayeredDesign}
use Rattle.block_laws.specs.Meeting.{with_captures}
use Rattle.block_laws.specs.Standing.{PathsStand}
use Rattle.block_laws.proofs.CheckAmounts.{HeldCheck-from}
use Rattle.block_laws.proofs.Readings.{PathsStand-given}
use Rattle.block_laws.proofs.Standing.{top-not_inside}
use Rattle.block_pieces.specs.BlockReach.{ComesFromTop}
use Rattle.block_pieces.specs.BlockReadings.{Launches, HasLaunch, EndsAtPort, EndsAtCheck, IsBlockReading}
use Rattle.block_pieces.specs.Standing.{IsPortCaptureOf, IsCheckCaptureOf, HasTable}
use Rattle.block_pieces.proofs.BlockReaching.{reaches-inside, reaches-whole}
use Rattle.block_pieces.proofs.Numbering.{filtered-has, filtered-below, filtered-passes, filter-has}

-- ---- members of mapped and joined lists
map-from : {X Y : Type 0} (f : X → Y) (xs : List X) (y : Y) → Contains (map f xs) y → (a : X) × (Contains xs a × (f a ≡ y))
map-from f [] y has = absurd (omega (arith, has.1))
map-from {X} {Y} f (a ∷ as') y has = elim (contains-cases (f a) (map f as') y has) [
  | inl here ↦ (a, ((0, omega arith, refl), here))
  | inr later ↦ (let rest = map-from f as' y later in (rest.0, ((suc rest.1.0.0, omega (arith, rest.1.0.1), rest.1.0.2), rest.1.1)))
]

concat-from : (g : ℕ → List ℕ) (vs : List ℕ) (n : ℕ) → Contains (flat_map g vs) n → (v : ℕ) × (Contains vs v × Contains (g v) n)
concat-from g [] n has = absurd (omega (arith, has.1))
concat-from g (v ∷ vs) n has = elim (Contains-append_cases (g v) (flat_map g vs) n (subst (λ (ns : List ℕ). Contains ns n) (flat_map-cons g v vs) has)) [
  | inl here ↦ (v, ((0, omega arith, refl), here))
  | inr later ↦ (let rest = concat-from g vs n later in (rest.0, ((suc rest.1.0.0, omega (arith, rest.1.0.1), rest.1.0.2), rest.1.1)))
]

concat-in : (g : ℕ → List ℕ) (vs : List ℕ) (v n : ℕ) → Contains vs v → Contains (g v) n → Contains (flat_map g vs) n
concat-in g [] v n there has = absurd (omega (arith, there.1))
concat-in g (u ∷ us) v n there has = subst (λ (ns : List ℕ). Contains ns n) (sym (flat_map-cons g u us)) (elim (contains-cases u us v there) [
  | inl here ↦ Contains-append_left (g u) (flat_map g us) n (subst (λ z. Contains (g z) n) (sym here) has)
  | inr later ↦ Contains-append_right (g u) (flat_map g us) n (concat-in g us v n later has)
])

filter-from : {X : Type 0} (p : X → Bool) (xs : List X) (a : X) → Contains (filter p xs) a → Contains xs a
filter-from p [] a has = absurd (omega (arith, has.1))
filter-from {X} p (y ∷ ys) a has = by_test (p y) refl (λ later. filter-from p ys a later)
  where
    by_test : (b : Bool) → p y ≡ b → (Contains (filter p ys) a → Contains ys a) → Contains (y ∷ ys) a
    by_test true e rest = elim (contains-cases y (filter p ys) a (subst (λ (zs : List X). Contains zs a) (let same : filter p (y ∷ ys) ≡ y ∷ filter p ys = rw e refl in same) has)) [
      | inl here ↦ (0, omega arith, here)
      | inr later ↦ (let there = rest later in (suc there.0, omega (arith, there.1), there.2))
    ]
    by_test false e rest =
        let there = rest (subst (λ (zs : List X). Contains zs a) (let same : filter p (y ∷ ys) ≡ filter p ys = rw e refl in same) has) in
        (suc there.0, omega (arith, there.1), there.2)

module _ (x : Context) (arcs : List Arc) (commands : List NumberedCommand) (policy : Policy) (given : IsLayeredDesign x.design x.timing arcs commands x.all policy x.layered)
    (block_is : IsBlock x.design x.block) (through : through_inside x.design (x.block ∷ []) x.all.exceptions ≡ None) (reached : AreReached x.design 0 x.all.clocks x.reached) where
  abbrev read : View
  read = top_view x arcs x.all

  abbrev whole : Subject
  whole = record { design = x.design; root = 0; timing = x.timing }

  stand : PathsStand x.design x.timing x.all
  stand = PathsStand-given x.design x.timing arcs commands x.all policy x.layered given

  -- ---- what the table asks
  pub class-below : (k : ℕ) → k < length x.layered.classes → (class_number x.layered.classes k).clock < length x.all.clocks
  class-below k below =
      let node = (given.layering.classes.live k (class_number [] 0) below).1 in
      subst (λ (j : Class). j.clock < length x.all.clocks) (sym node.class_is) (given.sound.launch_clocks node.path.launch (launch_at [] 0) node.constrained.is_path.launch)

  clocked-no_input : (v : ℕ) → (t : Bool) → is_clocked x.timing v ≡ t → is_input_of x.design x.block v ≡ true → t ≡ false
  clocked-no_input v false is input = refl
  clocked-no_input v true is input = absurd (true≢false (sym input ∙ leaf-no_input x.design given.design x.block block_is v (stand.clocked v is)))

  checked-no_output : (v : ℕ) → (t : Bool) → is_checked x.timing v ≡ t → is_output_of x.design x.block v ≡ true → t ≡ false
  checked-no_output v false is output = refl
  checked-no_output v true is output = absurd (true≢false (sym output ∙ leaf-no_output x.design given.design x.block block_is v (stand.checked v is)))

  pub HasTable-given : HasTable x
  HasTable-given = record {
    input_unclocked = λ v input. clocked-no_input v (is_clocked x.timing v) refl input;
    output_unchecked = λ v output. checked-no_output v (is_checked x.timing v) refl output;
    differ = λ i k below less. places.class-one read policy x.layered given.layering i k below less;
    periods = λ k below. (given.sound.clocks (class_number x.layered.classes k).clock (clock_at [] 0) (class-below k below)).shortest;
    rise = given.sound.numbers;
    lacks = λ v inner. groups-lack x.design x.block v x.all.exceptions through inner;
  }

  -- ---- nodes at port bits
  class-of : (n : ℕ) → n < length x.layered.nodes → node_class x.layered n < length x.layered.classes
  class-of n below = (given.layering.nodes.sound n (node_at [] 0) below).number

  pub node-from : (vs : List ℕ) (n : ℕ) → Contains (flat_map (nodes_at x.layered) vs) n → (n < length x.layered.nodes) × Contains vs (node_at x.layered.nodes n).pin.0
  node-from vs n has =
      let found = concat-from (nodes_at x.layered) vs n has in
      let pin = (Decides-eqb (node_at x.layered.nodes n).pin.0 found.0).0 (filtered-passes (λ n. (node_at x.layered.nodes n).pin.0 == found.0) (range_with_len 0 (length x.layered.nodes)) n found.1.1) in
      (filtered-below (λ n. (node_at x.layered.nodes n).pin.0 == found.0) (length x.layered.nodes) n found.1.1, subst (Contains vs) (sym pin) found.1.0)

  node-in : (vs : List ℕ) (n : ℕ) → n < length x.layered.nodes → Contains vs (node_at x.layered.nodes n).pin.0 → Contains (flat_map (nodes_at x.layered) vs) n
  node-in vs n below there =
      concat-in (nodes_at x.layered) vs (node_at x.layered.nodes n).pin.0 n there
      (filtered-has (λ m. (node_at x.layered.nodes m).pin.0 == (node_at x.layered.nodes n).pin.0) (length x.layered.nodes) n below (eq-eqb (node_at x.layered.nodes n).pin.0 (node_at x.layered.nodes n).pin.0 refl))

  pub class-in : (ns : List ℕ) (n : ℕ) → Contains ns n → n < length x.layered.nodes → Contains (classes_of x.layered ns) (node_class x.layered n)
  class-in ns n there below =
      filtered-has (λ k. list_any (λ m. node_class x.layered m == k) ns) (length x.layered.classes) (node_class x.layered n) (class-of n below)
      (place-any (λ m. node_class x.layered m == node_class x.layered n) n ns there.0 there.1 (eq-eqb _ (node_class x.layered n) (ap (node_class x.layered) there.2)))

  pub bit-from : (v : ℕ) → Contains (input_bits x.design x.block) v → is_input_of x.design x.block v ≡ true
  bit-from v has =
      let place = filtered-passes (λ v. (pin_at x.design.pins v).place == x.block) (range_with_len 0 (length x.design.pins)) v (filter-from (λ v. is_input (pin_at x.design.pins v).dir) (bits_of x.design x.block) v has) in
      rw (place, filtered-passes (λ v. is_input (pin_at x.design.pins v).dir) (bits_of x.design x.block) v has) refl

  pub out-from : (v : ℕ) → Contains (output_bits x.design x.block) v → is_output_of x.design x.block v ≡ true
  out-from v has =
      let place = filtered-passes (λ v. (pin_at x.design.pins v).place == x.block) (range_with_len 0 (length x.design.pins)) v (filter-from (λ v. is_output (pin_at x.design.pins v).dir) (bits_of x.design x.block) v has) in
      rw (place, filtered-passes (λ v. is_output (pin_at x.design.pins v).dir) (bits_of x.design x.block) v has) refl

  bit-in : (v : ℕ) → v < length x.design.pins → is_input_of x.design x.block v ≡ true → Contains (input_bits x.design x.block) v
  bit-in v below input =
      let parts = and-true ((pin_at x.design.pins v).place == x.block) (is_input (pin_at x.design.pins v).dir) input in
      filter-has (λ v. is_input (pin_at x.design.pins v).dir) (bits_of x.design x.block) v (filtered-has (λ v. (pin_at x.design.pins v).place == x.block) (length x.design.pins) v below parts.0) parts.1

  out-in : (v : ℕ) → v < length x.design.pins → is_output_of x.design x.block v ≡ true → Contains (output_bits x.design x.block) v
  out-in v below output =
      let parts = and-true ((pin_at x.design.pins v).place == x.block) (is_output (pin_at x.design.pins v).dir) output in
      filter-has (λ v. is_output (pin_at x.design.pins v).dir) (bits_of x.design x.block) v (filtered-has (λ v. (pin_at x.design.pins v).place == x.block) (length x.design.pins) v below parts.0) parts.1

  stands-node : (n : ℕ) → n < length x.layered.nodes → Stands x.layered.classes x.layered.nodes n (node_at x.layered.nodes n).pin.0 (class_number x.layered.classes (node_class x.layered n))
  stands-node n below = places.StandsAt-from_read read policy x.layered given.layering n (node_at [] 0) below

  -- the launch at a node of an input bit
  port-launch : (arrivals : List ℤ) (l : Launch) (n : ℕ) → Contains (input_nodes x.design x.layered x.block) n
      → (node_at x.layered.nodes n).pin ≡ l.pin → virtual_number x (node_class x.layered n) ≡ l.clock → (class_number x.layered.classes (node_class x.layered n)).edge ≡ l.edge → number_at arrivals n ≡ l.offset
      → Launches x arrivals l (class_number x.layered.classes (node_class x.layered n))
  port-launch arrivals l n there pin clock edge offset =
      let node = node-from (input_bits x.design x.block) n there in
      let input = subst (λ (p : PinId). is_input_of x.design x.block p.0 ≡ true) pin (bit-from (node_at x.layered.nodes n).pin.0 node.1) in
      record {
        stands = inl (record {
          number = node_class x.layered n;
          launch = record { «class» = class-in (input_nodes x.design x.layered x.block) n there node.0; clock = sym clock; edge = sym edge; input = input };
          class_is = refl;
        });
        begins = inl (
          input,
          record {
            node = n;
            stands = subst (λ (p : PinId). Stands x.layered.classes x.layered.nodes n p.0 (class_number x.layered.classes (node_class x.layered n))) pin (stands-node n node.0);
            time_is = sym offset;
          },
        );
      }

  port-capture : (y : Capture) (n : ℕ) → Contains (output_nodes x.design x.layered x.block) n → (node_at x.layered.nodes n).pin ≡ y.pin → virtual_number x (node_class x.layered n) ≡ y.clock
      → (class_number x.layered.classes (node_class x.layered n)).edge ≡ y.edge → IsPortCaptureOf x y (node_class x.layered n)
  port-capture y n there pin clock edge =
      let node = node-from (output_bits x.design x.block) n there in
      record {
        «class» = class-in (output_nodes x.design x.layered x.block) n there node.0;
        clock = sym clock;
        edge = sym edge;
        output = subst (λ (p : PinId). is_output_of x.design x.block p.0 ≡ true) pin (out-from (node_at x.layered.nodes n).pin.0 node.1);
      }

  -- ---- clocks, and launches at clock pins
  result : IsResult whole given.constraints.scope
  result = resolved-sound whole commands given.constraints.scope given.read given.numbers given.constraints.says

  sources : AreSources x.design x.all.clocks
  sources = subst (AreSources x.design) (sym given.constraints.clocks) (sources-are x.design given.design x.timing given.constraints.scope.clocks result.sound.clocks)

  one-clock : (c e v : ℕ) → Reaches x.design 0 x.all.clocks c v → Reaches x.design 0 x.all.clocks e v → c ≡ e
  one-clock c e v first second = some-same c e (sym (reached.all v c first) ∙ reached.all v e second)

  in-scope : (c v : ℕ) → Reaches x.design 0 x.all.clocks c v → Reaches x.design 0 given.constraints.scope.clocks c v
  in-scope c v reaches = subst (λ (cs : List Clock). Reaches x.design 0 cs c v) given.constraints.clocks reaches

  from-scope : (c v : ℕ) → Reaches x.design 0 given.constraints.scope.clocks c v → Reaches x.design 0 x.all.clocks c v
  from-scope c v reaches = subst (λ (cs : List Clock). Reaches x.design 0 cs c v) (sym given.constraints.clocks) reaches

  edge-below : (pin : PinId) (edge : Edge) → Contains x.timing.edges (record { pin = pin; edge = edge }) → pin.0 < length x.design.pins
  edge-below pin edge has = All-contains (λ (e : LaunchEdge). e.pin.0 < length x.design.pins) x.timing.edges (record { pin = pin; edge = edge }) given.timing.edges has

  edge-clocked : (pin : PinId) (edge : Edge) → Contains x.timing.edges (record { pin = pin; edge = edge }) → is_clocked x.timing pin.0 ≡ true
  edge-clocked pin edge has =
      place-any (λ (e : LaunchEdge). e.pin.0 == pin.0) (record { pin = pin; edge = edge }) x.timing.edges has.0 has.1 (eq-eqb _ pin.0 (ap (λ (e : LaunchEdge). e.pin.0) has.2))

  one-edge : (p q : PinId) (e f : Edge) → Contains x.timing.edges (record { pin = p; edge = e }) → Contains x.timing.edges (record { pin = q; edge = f }) → p.0 ≡ q.0 → e ≡ f
  one-edge p q e f first second same =
      elim (members-related (λ (a b : LaunchEdge). edge_pin_before a b ≡ true) x.timing.edges (record { pin = p; edge = e }) (record { pin = q; edge = f }) given.timing.edge_order first second) [
        | inl one ↦ ap (λ (a : LaunchEdge). a.edge) one
        | inr differ ↦ elim differ [
          | inl before ↦ absurd (omega (arith, same, (Decides-ltb p.0 q.0).0 before))
          | inr after ↦ absurd (omega (arith, same, (Decides-ltb q.0 p.0).0 after))
        ]
      ]

  whole-launch : (pin : PinId) (edge : Edge) (c : ℕ) → Contains x.timing.edges (record { pin = pin; edge = edge }) → Reaches x.design 0 x.all.clocks c pin.0
      → Contains x.all.launches (record { pin = pin; clock = c; edge = edge; offset = pos 0 })
  whole-launch pin edge c has reaches =
      given.constraints.launches.complete (record { pin = pin; clock = c; edge = edge; offset = pos 0 })
      (inr (record { within = pin-inside x.design given.design x.timing pin.0 (edge-below pin edge has); edge = has; reached = in-scope c pin.0 reaches; offset = refl }))

  -- the classes of launches at one pin, of one clock and edge, are the same
  class-same : (o m : Launch) → o.pin.0 ≡ m.pin.0 → o.clock ≡ m.clock → o.edge ≡ m.edge → own_class x.all o ≡ own_class x.all m
  class-same o m pin clock edge =
      ap (λ p. own_class x.all (record { pin = record { 0 = p }; clock = o.clock; edge = o.edge; offset = pos 0 })) pin
      ∙ (ap (λ c. own_class x.all (record { pin = m.pin; clock = c; edge = o.edge; offset = pos 0 })) clock ∙ ap (λ e. own_class x.all (record { pin = m.pin; clock = m.clock; edge = e; offset = pos 0 })) edge)

  port-top : (o : Launch) → Contains given.constraints.scope.inputs (record { pin = o.pin; clock = o.clock; edge = o.edge; amount = o.offset }) → (pin_at x.design.pins o.pin.0).place ≡ 0
  port-top o port =
      input-top x.design given.design x.timing o.pin.0
      (All-contains (IsDelayAs whole Input (length given.constraints.scope.clocks)) given.constraints.scope.inputs (record { pin = o.pin; clock = o.clock; edge = o.edge; amount = o.offset }) result.sound.inputs.each port).pin.may_be

  alone-at : (m : Launch) → Contains x.timing.edges (record { pin = m.pin; edge = m.edge }) → is_inside x.design.places x.block (pin_at x.design.pins m.pin.0).place ≡ true → Reaches x.design 0 x.all.clocks m.clock m.pin.0
      → (o : Launch) → Contains x.all.launches o → o.pin.0 ≡ m.pin.0 → own_class x.all o ≡ own_class x.all m
  alone-at m edge inner reaches o there pin = by_kind (All-contains (IsLaunch whole given.constraints.scope) x.all.launches o given.constraints.launches.sound there)
    where
      by_kind : IsLaunch whole given.constraints.scope o → own_class x.all o ≡ own_class x.all m
      by_kind (inl port) =
          absurd (top-not_inside x.design given.design x.block block_is o.pin.0 (port-top o port) (subst (λ v. is_inside x.design.places x.block (pin_at x.design.pins v).place ≡ true) (sym pin) inner))
      by_kind (inr clock) =
          class-same o m pin (one-clock o.clock m.clock m.pin.0 (subst (Reaches x.design 0 x.all.clocks o.clock) pin (from-scope o.clock o.pin.0 clock.reached)) reaches)
          (one-edge o.pin m.pin o.edge m.edge clock.edge edge pin)

  -- a launch at a clock pin of the block, by the clock that reaches it there
  clock-launch : (arrivals : List ℤ) (l : Launch) → Contains x.timing.edges (record { pin = l.pin; edge = l.edge }) → is_pin_of x.design x.block l.pin.0 ≡ true → l.offset ≡ pos 0
      → (from : ComesFromTop x l.clock l.pin.0) → Launches x arrivals l (own_class x.all (record { pin = l.pin; clock = from.clock; edge = l.edge; offset = pos 0 }))
  clock-launch arrivals l edge inner offset from =
      let m : Launch = record { pin = l.pin; clock = from.clock; edge = l.edge; offset = pos 0 } in
      record {
        stands = inr (record {
          whole = m;
          launch = record {
            clocked = edge-clocked l.pin l.edge edge;
            below = edge-below l.pin l.edge edge;
            inside = inner;
            launch = whole-launch l.pin l.edge from.clock edge from.reaches;
            pin = refl;
            edge = refl;
            real = from.real;
            clock = from.number;
            alone = alone-at m edge inner from.reaches;
          };
          class_is = refl;
        });
        begins = inr (edge-clocked l.pin l.edge edge, offset);
      }

  node-pin_below : (i : ℕ) → i < length x.layered.nodes → (node_at x.layered.nodes i).pin.0 < length x.design.pins
  node-pin_below i below = given.layered_sound.nodes i (node_at [] 0) below

  module _ (n : Numbers) (size : length n.amounts ≡ length x.timing.checks) (arrivals : List ℤ) (block : Constraints) (file : List NumberedCommand)
      (are : AreConstraints (subject_with x.design x.block x.timing n) file block) (scope_is : are.scope ≡ block_scope x arrivals)
      (captures : List Capture) (tops : Lists capture_before (IsCapture (subject_with x.design 0 x.timing n) given.constraints.scope) captures) where
    abbrev inner_subject : Subject
    inner_subject = subject_with x.design x.block x.timing n

    launches-here : Lists launch_before (IsLaunch inner_subject (block_scope x arrivals)) block.launches
    launches-here = subst (λ (s : Scope). Lists launch_before (IsLaunch inner_subject s) block.launches) scope_is are.launches

    captures-here : Lists capture_before (IsCapture inner_subject (block_scope x arrivals)) block.captures
    captures-here = subst (λ (s : Scope). Lists capture_before (IsCapture inner_subject s) block.captures) scope_is are.captures

    launch-of : (l : Launch) → IsLaunch inner_subject (block_scope x arrivals) l → (k : Class) × Launches x arrivals l k
    launch-of l (inl port) =
        let found = map-from (delay_as x (input_amount arrivals)) (input_nodes x.design x.layered x.block) (record { pin = l.pin; clock = l.clock; edge = l.edge; amount = l.offset }) port in
        let is = found.1.1 in (
          class_number x.layered.classes (node_class x.layered found.0),
          port-launch arrivals l found.0 found.1.0 (ap (λ (y : PinDelay). y.pin) is) (ap (λ (y : PinDelay). y.clock) is) (ap (λ (y : PinDelay). y.edge) is) (ap (λ (y : PinDelay). y.amount) is),
        )
    launch-of l (inr clock) =
        let from = reaches-whole x given.design block_is reached sources l.clock l.pin.0 clock.reached in
        (own_class x.all (record { pin = l.pin; clock = from.clock; edge = l.edge; offset = pos 0 }), clock-launch arrivals l clock.edge clock.within clock.offset from)

    has-launch : (l : Launch) (k : Class) → IsLaunch inner_subject (block_scope x arrivals) l → Launches x arrivals l k → HasLaunch x arrivals block l.pin.0 k
    has-launch l k is launches =
        let there = launches-here.complete l is in
        let same : launch_at block.launches there.0 ≡ l = get_or_default block.launches there.0 (launch_at [] 0) l there.1 ∙ there.2 in
        record {
          number = there.0;
          below = there.1;
          pin = ap (λ (m : Launch). m.pin.0) same;
          launches = subst (λ (m : Launch). Launches x arrivals m k) (sym same) launches;
        }

    port-has : (i u : ℕ) (k : Class) → Stands x.layered.classes x.layered.nodes i u k → is_input_of x.design x.block u ≡ true → HasLaunch x arrivals block u k
    port-has i u k stands input =
        let one = places.StandsAt-one_state read policy x.layered given.layering i (node_at x.layered.nodes i).pin.0 u (class_number x.layered.classes (node_class x.layered i)) k (stands-node i stands.number) stands in
        let below : (node_at x.layered.nodes i).pin.0 < length x.design.pins = node-pin_below i stands.number in
        let there = node-in (input_bits x.design x.block) i stands.number (bit-in (node_at x.layered.nodes i).pin.0 below (subst (λ v. is_input_of x.design x.block v ≡ true) (sym one.0) input)) in
        let delay = delay_as x (input_amount arrivals) i in
        let l : Launch = record { pin = delay.pin; clock = delay.clock; edge = delay.edge; offset = delay.amount } in
        let launches = port-launch arrivals l i there refl refl refl refl in
        subst (λ v. HasLaunch x arrivals block v k) one.0 (subst (λ j. HasLaunch x arrivals block (node_at x.layered.nodes i).pin.0 j) one.1
        (has-launch l (class_number x.layered.classes (node_class x.layered i)) (inl (contains-map (delay_as x (input_amount arrivals)) (input_nodes x.design x.layered x.block) i there)) launches))

    clock-has : (i : ℕ) → i < length x.all.launches → is_inside x.design.places x.block (pin_at x.design.pins (launch_at x.all.launches i).pin.0).place ≡ true
        → HasLaunch x arrivals block (launch_at x.all.launches i).pin.0 (own_class x.all (launch_at x.all.launches i))
    clock-has i below inner = by_kind (launch_at x.all.launches i) inner (given.constraints.launches.sound i (launch_at [] 0) below)
      where
        by_kind : (m : Launch) → is_inside x.design.places x.block (pin_at x.design.pins m.pin.0).place ≡ true → IsLaunch whole given.constraints.scope m → HasLaunch x arrivals block m.pin.0 (own_class x.all m)
        by_kind m inside (inl port) = absurd (top-not_inside x.design given.design x.block block_is m.pin.0 (port-top m port) inside)
        by_kind m inside (inr clock) =
            let reaches = from-scope m.clock m.pin.0 clock.reached in
            let leaf = stand.clocked m.pin.0 (edge-clocked m.pin m.edge clock.edge) in
            let here = reaches-inside x given.design block_is reached sources m.clock m.pin.0 inside (leaf-no_input x.design given.design x.block block_is m.pin.0 leaf) reaches in
            let from = reaches-whole x given.design block_is reached sources (real_number x m.clock) m.pin.0 here in
            let l : Launch = record { pin = m.pin; clock = real_number x m.clock; edge = m.edge; offset = pos 0 } in
            subst (λ j. HasLaunch x arrivals block m.pin.0 j)
            (class-same (record { pin = m.pin; clock = from.clock; edge = m.edge; offset = pos 0 }) m refl (one-clock from.clock m.clock m.pin.0 from.reaches reaches) refl)
            (has-launch l (own_class x.all (record { pin = m.pin; clock = from.clock; edge = m.edge; offset = pos 0 }))
            (inr (record { within = inside; edge = clock.edge; reached = here; offset = refl })) (clock-launch arrivals l clock.edge inside refl from))

    -- ---- captures
    port-end : (y : Capture) (i : ℕ) → Contains (output_nodes x.design x.layered x.block) i → delay_as x (output_amount x.all x.layered arrivals) i ≡ record { pin = y.pin; clock = y.clock; edge = y.edge; amount = y.amount }
        → EndsAtPort x arrivals y
    port-end y i there is =
        let node = node-from (output_bits x.design x.block) i there in
        let pin : (node_at x.layered.nodes i).pin ≡ y.pin = ap (λ (d : PinDelay). d.pin) is in
        record {
          number = node_class x.layered i;
          capture = port-capture y i there pin (ap (λ (d : PinDelay). d.clock) is) (ap (λ (d : PinDelay). d.edge) is);
          arrival = number_at arrivals i;
          arrives = record {
            node = i;
            stands = subst (λ (p : PinId). Stands x.layered.classes x.layered.nodes i p.0 (class_number x.layered.classes (node_class x.layered i))) pin (stands-node i node.0);
            time_is = refl;
          };
          amount = sym (ap (λ (d : PinDelay). d.amount) is);
        }

    -- a check's capture, by the clock that reaches its clock pin in the block
    check-of : (y : Capture) (clock_pin : PinId) → Contains (timing_with x.timing n).checks (record { pin = y.pin; clock = clock_pin; edge = y.edge; amount = y.amount }) → is_pin_of x.design x.block y.pin.0 ≡ true
        → (from : ComesFromTop x y.clock clock_pin.0) → IsCheckCaptureOf x y (record { pin = y.pin; clock = from.clock; edge = y.edge; amount = y.amount })
    check-of y clock_pin check inner from =
        let found = HeldCheck-from x.timing.checks n.amounts (record { pin = y.pin; clock = clock_pin; edge = y.edge; amount = y.amount }) size check in
        let as_read = found.has.read in
        let sound = All-contains (IsSoundCheck x.design x.timing) x.timing.checks (record { pin = y.pin; clock = clock_pin; edge = y.edge; amount = (check_at x.timing.checks found.has.number).amount }) given.timing.checks as_read in
        record {
          checked = place-any (λ (c : Check). c.pin.0 == y.pin.0) (record { pin = y.pin; clock = clock_pin; edge = y.edge; amount = (check_at x.timing.checks found.has.number).amount }) x.timing.checks as_read.0 as_read.1
              (eq-eqb _ y.pin.0 (ap (λ (c : Check). c.pin.0) as_read.2));
          below = sound.pin;
          inside = inner;
          pin = refl;
          edge = refl;
          real = from.real;
          clock = from.number;
        }

    capture-of : (y : Capture) → IsCapture inner_subject (block_scope x arrivals) y → EndsAtPort x arrivals y ⊎ EndsAtCheck x (with_captures x.all captures) y
    capture-of y (inl port) =
        let found = map-from (delay_as x (output_amount x.all x.layered arrivals)) (output_nodes x.design x.layered x.block) (record { pin = y.pin; clock = y.clock; edge = y.edge; amount = y.amount }) port in
        inl (port-end y found.0 found.1.0 found.1.1)
    capture-of y (inr check) =
        let from = reaches-whole x given.design block_is reached sources y.clock check.clock_pin.0 check.reached in
        let z : Capture = record { pin = y.pin; clock = from.clock; edge = y.edge; amount = y.amount } in
        let is = check-of y check.clock_pin check.check check.within from in
        inr (record {
          whole = z;
          is_capture = tops.complete z
              (inr (record { within = pin-inside x.design given.design x.timing y.pin.0 is.below; clock_pin = check.clock_pin; check = check.check; reached = in-scope from.clock check.clock_pin.0 from.reaches }));
          capture = is;
          amount = refl;
        })

    has-capture : (y : Capture) → IsCapture inner_subject (block_scope x arrivals) y → Contains block.captures y
    has-capture y is = captures-here.complete y is

    port-has_capture : (i w : ℕ) (k : Class) → Stands x.layered.classes x.layered.nodes i w k → is_output_of x.design x.block w ≡ true
        → (y : Capture) × (Contains block.captures y × (y.pin.0 ≡ w) × ((j : ℕ) × (IsPortCaptureOf x y j × (class_number x.layered.classes j ≡ k))))
    port-has_capture i w k stands output =
        let one = places.StandsAt-one_state read policy x.layered given.layering i (node_at x.layered.nodes i).pin.0 w (class_number x.layered.classes (node_class x.layered i)) k (stands-node i stands.number) stands in
        let below : (node_at x.layered.nodes i).pin.0 < length x.design.pins = node-pin_below i stands.number in
        let there = node-in (output_bits x.design x.block) i stands.number (out-in (node_at x.layered.nodes i).pin.0 below (subst (λ v. is_output_of x.design x.block v ≡ true) (sym one.0) output)) in
        let delay = delay_as x (output_amount x.all x.layered arrivals) i in
        let y : Capture = record { pin = delay.pin; clock = delay.clock; edge = delay.edge; amount = delay.amount } in (
          y,
          (
            has-capture y (inl (contains-map (delay_as x (output_amount x.all x.layered arrivals)) (output_nodes x.design x.layered x.block) i there)),
            one.0,
            (node_class x.layered i, (port-capture y i there refl refl refl, one.1)),
          ),
        )

    out-top : (z : Capture) → Contains given.constraints.scope.outputs (record { pin = z.pin; clock = z.clock; edge = z.edge; amount = z.amount }) → (pin_at x.design.pins z.pin.0).place ≡ 0
    out-top z port =
        output-top x.design given.design x.timing z.pin.0
        (All-contains (IsDelayAs whole Output (length given.constraints.scope.clocks)) given.constraints.scope.outputs (record { pin = z.pin; clock = z.clock; edge = z.edge; amount = z.amount }) result.sound.outputs.each port).pin.may_be

    check-has : (z : Capture) → Contains captures z → is_inside x.design.places x.block (pin_at x.design.pins z.pin.0).place ≡ true
        → (y : Capture) × (Contains block.captures y × IsCheckCaptureOf x y z × (y.amount ≡ z.amount))
    check-has z there inner = by_kind (All-contains (IsCapture (subject_with x.design 0 x.timing n) given.constraints.scope) captures z tops.sound there)
      where
        by_kind : IsCapture (subject_with x.design 0 x.timing n) given.constraints.scope z → (y : Capture) × (Contains block.captures y × IsCheckCaptureOf x y z × (y.amount ≡ z.amount))
        by_kind (inl port) = absurd (top-not_inside x.design given.design x.block block_is z.pin.0 (out-top z port) inner)
        by_kind (inr check) =
            let v = check.clock_pin.0 in
            let found = HeldCheck-from x.timing.checks n.amounts (record { pin = z.pin; clock = check.clock_pin; edge = z.edge; amount = z.amount }) size check.check in
            let as_read = found.has.read in
            let c : Check = record { pin = z.pin; clock = check.clock_pin; edge = z.edge; amount = (check_at x.timing.checks found.has.number).amount } in
            let sound = All-contains (IsSoundCheck x.design x.timing) x.timing.checks c given.timing.checks as_read in
            let place = All-contains (λ (c : Check). (pin_at x.design.pins c.pin.0).place ≡ (pin_at x.design.pins c.clock.0).place) x.timing.checks c given.together as_read in
            let inside : is_inside x.design.places x.block (pin_at x.design.pins v).place ≡ true = subst (λ p. is_inside x.design.places x.block p ≡ true) place inner in
            let reaches = from-scope z.clock v check.reached in
            let here = reaches-inside x given.design block_is reached sources z.clock v inside (leaf-no_input x.design given.design x.block block_is v (stand.clocked v sound.clock)) reaches in
            let from = reaches-whole x given.design block_is reached sources (real_number x z.clock) v here in
            let same = one-clock from.clock z.clock v from.reaches reaches in
            let y : Capture = record { pin = z.pin; clock = real_number x z.clock; edge = z.edge; amount = z.amount } in
            let is = check-of y check.clock_pin check.check inner from in (
              y,
              (
                has-capture y (inr (record { within = inner; clock_pin = check.clock_pin; check = check.check; reached = here })),
                subst (λ k. IsCheckCaptureOf x y (record { pin = z.pin; clock = k; edge = z.edge; amount = z.amount })) same is,
                refl,
              ),
            )

    pub IsBlockReading-file : IsBlockReading x arrivals (with_captures x.all captures) block
    IsBlockReading-file = record {
      parts = record {
        clocks = are.clocks ∙ ap (λ (s : Scope). s.clocks) scope_is;
        number = first_form x;
        exceptions = are.exceptions ∙ ap (λ (s : Scope). s.exceptions) scope_is;
      };
      launches = λ i below. launch-of (launch_at block.launches i) (launches-here.sound i (launch_at [] 0) below);
      port_launch = port-has;
      clock_launch = clock-has;
      captures = λ y there. capture-of y (All-contains (IsCapture inner_subject (block_scope x arrivals)) block.captures y captures-here.sound there);
      port_capture = port-has_capture;
      check_capture = check-has;
    }
