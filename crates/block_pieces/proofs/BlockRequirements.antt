-- What a launch that stands for a class is required at the captures of a block's design.
use Rattle.std.specs.Prelude.{◌≡◌, ℕ, ◌<◌, ◌==◌, true, false, List, [], ◌∷◌, ◌++◌, map, filter, length, Contains, Some, None}
use Rattle.std.proofs.Common.{true≢false, sym, ◌∙◌, ap, subst, arith, inl, inr}
use Rattle.std.proofs.lemmas.Bool.{ne_eqb}
use Rattle.std.proofs.lemmas.List.{length-map, get_or-map, get_or_append_left, get_or-append_right}
use Rattle.bud_base.specs.declared.ids.PinId.{PinId}
use Rattle.bud_syntax.specs.declared.edges.Edge.{Edge}
use Rattle.bud_design.specs.declared.clocks.Capture.{Capture}
use Rattle.bud_design.specs.declared.clocks.Clock.{Clock}
use Rattle.bud_design.specs.declared.clocks.Constraints.{Constraints}
use Rattle.bud_design.specs.declared.clocks.Exception.{Exception}
use Rattle.bud_design.specs.declared.clocks.ExceptionKind.{ExceptionKind}
use Rattle.bud_design.specs.declared.clocks.Launch.{Launch}
use Rattle.bud_design.specs.declared.layers.Class.{Class}
use Rattle.bud_design.specs.Clocks.{clock_at}
use Rattle.bud_design.specs.Designs.{pin_at, is_inside}
use Rattle.bud_design.specs.Exceptions.{matches, required_by, requirement, class_requirement}
use Rattle.bud_design.specs.Layers.{class_number}
use Rattle.bud_design.proofs.ClassLaws.{class-decides-requirement}
use Rattle.block_theory.specs.BlockClocks.{bits_reached, sources_inside, real_clocks, virtual_name}
use Rattle.block_theory.specs.BlockExceptions.{block_forms, same_class, own_class}
use Rattle.block_theory.specs.BlockPorts.{Context, class_clock, port_classes}
use Rattle.block_theory.specs.BlockScopes.{block_clocks, real_as, virtual_as, real_number, virtual_number, place_in, clock_from}
use Rattle.block_pieces.specs.Standing.{IsPortLaunchOf, IsClockLaunchOf, IsPortCaptureOf, IsCheckCaptureOf, LaunchesClass, HasFileParts, HasTable}
use Rattle.block_pieces.proofs.FormKinds.{form_matches, kinds, kinds-from}
use Rattle.block_pieces.proofs.Likeness.{required-alike, required-own, required-none}
use Rattle.block_pieces.proofs.Matching as matching
use Rattle.block_pieces.proofs.Numbering.{IsPlaceOf-place_in}
use Rattle.block_pieces.proofs.PortTable.{port-other, port-same, clock-other, clock-same, same_class-self}
use Rattle.block_pieces.proofs.Table.{port-check, clock-check}

module _ (x : Context) where
  -- the clocks at their numbers
  pub real-clock-at : (c : ℕ) → Contains (real_clocks x) c → clock_at (block_clocks x) (real_number x c) ≡ real_as x c
  real-clock-at c there =
      let place = IsPlaceOf-place_in (real_clocks x) c there in
      let below : real_number x c < length (map (real_as x) (real_clocks x)) = omega (arith, place.below, length-map (real_clocks x) (real_as x)) in
      get_or_append_left (map (real_as x) (real_clocks x)) (map (virtual_as x) (port_classes x)) (clock_at [] 0) (real_number x c) below
      ∙ (get_or-map (real_as x) (real_clocks x) (real_number x c) c (clock_at [] 0) place.below ∙ ap (real_as x) place.is)

  pub virtual-clock-at : (k : ℕ) → Contains (port_classes x) k → clock_at (block_clocks x) (virtual_number x k) ≡ virtual_as x k
  virtual-clock-at k there =
      let place = IsPlaceOf-place_in (port_classes x) k there in
      let i = place_in (port_classes x) k in
      get_or-append_right (map (real_as x) (real_clocks x)) (map (virtual_as x) (port_classes x)) (length (real_clocks x)) (virtual_number x k) (clock_at [] 0) (length-map (real_clocks x) (real_as x)) (omega arith)
      ∙ (ap (λ n. clock_at (map (virtual_as x) (port_classes x)) n) (omega arith)
      ∙ (get_or-map (virtual_as x) (port_classes x) i k (clock_at [] 0) place.below ∙ ap (virtual_as x) place.is))

  module _ (block : Constraints) (parts : HasFileParts x block) (table : HasTable x) where
    by-forms : (l : Launch) (vs : List ℕ) (y : Capture)
        → requirement block l vs y ≡ required_by (kinds (form_matches x l y) (block_forms x)) (clock_at (block_clocks x) l.clock) l.edge (clock_at (block_clocks x) y.clock) y.edge
    by-forms l vs y =
        ap (λ (es : List Exception). required_by (map (λ (e : Exception). e.kind) (filter (λ e. matches e l vs y) es)) (clock_at block.clocks l.clock) l.edge (clock_at block.clocks y.clock) y.edge) parts.exceptions
        ∙ (ap (λ (ks : List ExceptionKind). required_by ks (clock_at block.clocks l.clock) l.edge (clock_at block.clocks y.clock) y.edge) (kinds-from x l vs y parts.number (block_forms x))
        ∙ ap (λ (cs : List Clock). required_by (kinds (form_matches x l y) (block_forms x)) (clock_at cs l.clock) l.edge (clock_at cs y.clock) y.edge) parts.clocks)

    -- with the kinds, the clocks and the edges in hand
    required-at : (l : Launch) (vs : List ℕ) (y : Capture) (ks : List ExceptionKind) (c d : Clock) (n m s r : List ℕ) (e f : Edge) → kinds (form_matches x l y) (block_forms x) ≡ ks
        → clock_at (block_clocks x) l.clock ≡ clock_from c n s → l.edge ≡ e → clock_at (block_clocks x) y.clock ≡ clock_from d m r → y.edge ≡ f
        → requirement block l vs y ≡ required_by ks c e d f
    required-at l vs y ks c d n m s r e f is_kinds is_launch is_edge is_capture is_at =
        by-forms l vs y
        ∙ (ap (λ (a : List ExceptionKind). required_by a (clock_at (block_clocks x) l.clock) l.edge (clock_at (block_clocks x) y.clock) y.edge) is_kinds
        ∙ (ap (λ (a : Clock). required_by ks a l.edge (clock_at (block_clocks x) y.clock) y.edge) is_launch
        ∙ (ap (λ (a : Edge). required_by ks (clock_from c n s) a (clock_at (block_clocks x) y.clock) y.edge) is_edge
        ∙ (ap (λ (a : Clock). required_by ks (clock_from c n s) e a y.edge) is_capture
        ∙ (ap (λ (a : Edge). required_by ks (clock_from c n s) e (clock_from d m r) a) is_at
        ∙ required-alike ks c d n m s r e f)))))

    port-launch-clock : (l : Launch) (k : ℕ) → IsPortLaunchOf x l k → clock_at (block_clocks x) l.clock ≡ clock_from (class_clock x.all x.layered k) (virtual_name x k) []
    port-launch-clock l k launch = ap (clock_at (block_clocks x)) launch.clock ∙ virtual-clock-at k (matching.input-port x k launch.«class»)

    clock-launch-clock : (l m : Launch) → IsClockLaunchOf x l m
        → clock_at (block_clocks x) l.clock ≡ clock_from (clock_at x.all.clocks m.clock) (clock_at x.all.clocks m.clock).name (bits_reached x m.clock ++ sources_inside x m.clock)
    clock-launch-clock l m launch = ap (clock_at (block_clocks x)) launch.clock ∙ real-clock-at m.clock launch.real

    port-capture-clock : (y : Capture) (j : ℕ) → IsPortCaptureOf x y j → clock_at (block_clocks x) y.clock ≡ clock_from (class_clock x.all x.layered j) (virtual_name x j) []
    port-capture-clock y j is = ap (clock_at (block_clocks x)) is.clock ∙ virtual-clock-at j (matching.output-port x j is.«class»)

    check-capture-clock : (y z : Capture) → IsCheckCaptureOf x y z
        → clock_at (block_clocks x) y.clock ≡ clock_from (clock_at x.all.clocks z.clock) (clock_at x.all.clocks z.clock).name (bits_reached x z.clock ++ sources_inside x z.clock)
    check-capture-clock y z is = ap (clock_at (block_clocks x)) is.clock ∙ real-clock-at z.clock is.real

    -- at an output bit in the class that the launch stands for: one period
    pub own-class : (l : Launch) (vs : List ℕ) (k : Class) (y : Capture) (j : ℕ) → LaunchesClass x l k → IsPortCaptureOf x y j → class_number x.layered.classes j ≡ k
        → requirement block l vs y ≡ Some (class_clock x.all x.layered j).period
    own-class l vs k y j (inl port) is same =
        let below = matching.output-below x j is.«class» in
        let one : port.number ≡ j = table.differ port.number j (matching.input-below x port.number port.launch.«class») below (sym port.class_is ∙ sym same) in
        required-at l vs y [] (class_clock x.all x.layered port.number) (class_clock x.all x.layered j) (virtual_name x port.number) (virtual_name x j) [] []
        (class_number x.layered.classes port.number).edge (class_number x.layered.classes j).edge
        (port-same x l y j is (table.output_unchecked y.pin.0 is.output) port.number port.launch (table.input_unclocked l.pin.0 port.launch.input) one)
        (port-launch-clock l port.number port.launch) port.launch.edge (port-capture-clock y j is) is.edge
        ∙ subst (λ i. required_by [] (class_clock x.all x.layered i) (class_number x.layered.classes i).edge (class_clock x.all x.layered j) (class_number x.layered.classes j).edge ≡ Some (class_clock x.all x.layered j).period) (sym one)
        (required-own (class_clock x.all x.layered j) (class_number x.layered.classes j).edge (table.periods j below))
    own-class l vs k y j (inr clock) is same =
        let below = matching.output-below x j is.«class» in
        let m = clock.whole in
        let one : own_class x.all m ≡ class_number x.layered.classes j = sym clock.class_is ∙ sym same in
        required-at l vs y [] (clock_at x.all.clocks m.clock) (class_clock x.all x.layered j) (clock_at x.all.clocks m.clock).name (virtual_name x j) (bits_reached x m.clock ++ sources_inside x m.clock) []
        m.edge (class_number x.layered.classes j).edge
        (clock-same x l y j is (table.output_unchecked y.pin.0 is.output) m clock.launch table.differ one)
        (clock-launch-clock l m clock.launch) clock.launch.edge (port-capture-clock y j is) is.edge
        ∙ subst (λ (c : Class). required_by [] (clock_at x.all.clocks c.clock) c.edge (class_clock x.all x.layered j) (class_number x.layered.classes j).edge ≡ Some (class_clock x.all x.layered j).period) (sym one)
        (required-own (class_clock x.all x.layered j) (class_number x.layered.classes j).edge (table.periods j below))

    -- and in any other: nothing
    pub other-class : (l : Launch) (vs : List ℕ) (k : Class) (y : Capture) (j : ℕ) → LaunchesClass x l k → IsPortCaptureOf x y j → same_class (class_number x.layered.classes j) k ≡ false
        → requirement block l vs y ≡ None
    other-class l vs k y j (inl port) is other =
        let apart : (j == port.number) ≡ false
        = ne_eqb j port.number (λ e. true≢false (sym (ap (λ i. same_class (class_number x.layered.classes i) k) e
        ∙ (ap (same_class (class_number x.layered.classes port.number)) port.class_is ∙ same_class-self (class_number x.layered.classes port.number))) ∙ other)) in
        by-forms l vs y
        ∙ required-none (kinds (form_matches x l y) (block_forms x)) (clock_at (block_clocks x) l.clock) (clock_at (block_clocks x) y.clock) l.edge y.edge
        (port-other x l y j is (table.output_unchecked y.pin.0 is.output) port.number port.launch (table.input_unclocked l.pin.0 port.launch.input) apart)
    other-class l vs k y j (inr clock) is other =
        by-forms l vs y
        ∙ required-none (kinds (form_matches x l y) (block_forms x)) (clock_at (block_clocks x) l.clock) (clock_at (block_clocks x) y.clock) l.edge y.edge
        (clock-other x l y j is (table.output_unchecked y.pin.0 is.output) clock.whole clock.launch (ap (same_class (class_number x.layered.classes j)) (sym clock.class_is) ∙ other))

    -- at a data pin what the capture of the whole design requires of the class
    pub data-pin : (l : Launch) (vs : List ℕ) (k : Class) (y z : Capture) → LaunchesClass x l k → IsCheckCaptureOf x y z → requirement block l vs y ≡ class_requirement x.all k z
    data-pin l vs k y z (inl port) is =
        required-at l vs y _ (class_clock x.all x.layered port.number) (clock_at x.all.clocks z.clock) (virtual_name x port.number) (clock_at x.all.clocks z.clock).name [] (bits_reached x z.clock ++ sources_inside x z.clock)
        (class_number x.layered.classes port.number).edge z.edge
        (port-check x l y z is port.number port.launch (table.input_unclocked l.pin.0 port.launch.input))
        (port-launch-clock l port.number port.launch) port.launch.edge (check-capture-clock y z is) is.edge
        ∙ ap (λ (c : Class). class_requirement x.all c z) (sym port.class_is)
    data-pin l vs k y z (inr clock) is =
        let m = clock.whole in
        let inner : is_inside x.design.places x.block (pin_at x.design.pins m.pin.0).place ≡ true = subst (λ (p : PinId). is_inside x.design.places x.block (pin_at x.design.pins p.0).place ≡ true) (sym clock.launch.pin) clock.launch.inside in
        required-at l vs y _ (clock_at x.all.clocks m.clock) (clock_at x.all.clocks z.clock) (clock_at x.all.clocks m.clock).name (clock_at x.all.clocks z.clock).name (bits_reached x m.clock ++ sources_inside x m.clock) (bits_reached x z.clock ++ sources_inside x z.clock)
        m.edge z.edge
        (clock-check x l y z is m clock.launch (table.lacks m.pin.0 inner))
        (clock-launch-clock l m clock.launch) clock.launch.edge (check-capture-clock y z is) is.edge
        ∙ (sym (class-decides-requirement x.all m (m.pin.0 ∷ []) z table.rise) ∙ ap (λ (c : Class). class_requirement x.all c z) (sym clock.class_is))
