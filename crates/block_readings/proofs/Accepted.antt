-- A block's design has the launches and captures of its file, so that the file is accepted at any setup amounts.
use Rattle.std.specs.Prelude.{◌≡◌, ℕ, ◌<◌, ◌==◌, ◌&&◌, ◌||◌, nat_lt, int_lt, ℤ, pos, Bool, true, false, List, [], ◌∷◌, ◌++◌, map, filter_map, length, All, AllPairs, Contains, Option, Some, None, if◌then◌else◌, slice_index_or}
use Rattle.std.specs.Option.{option_map}
use Rattle.std.proofs.Common.{true≢false, refl, sym, ◌∙◌, ap, subst, arith, inl, inr, ◌⊎◌, eq-eqb}
use Rattle.std.proofs.lemmas.List.Elements.{All-map, All-contains, Contains-append_left, Contains-append_right, Contains-append_cases, Contains-get_or}
use Rattle.bud_base.specs.declared.ids.PinId.{PinId}
use Rattle.bud_syntax.specs.declared.edges.Edge.{Edge}
use Rattle.bud_design.specs.declared.clocks.Capture.{Capture}
use Rattle.bud_design.specs.declared.clocks.Constraints.{Constraints}
use Rattle.bud_design.specs.declared.clocks.Launch.{Launch}
use Rattle.bud_design.specs.declared.policies.NumberedCommand.{NumberedCommand}
use Rattle.bud_design.specs.declared.policies.Policy.{Policy}
use Rattle.bud_design.specs.declared.timings.Check.{Check}
use Rattle.bud_design.specs.declared.timings.LaunchEdge.{LaunchEdge}
use Rattle.bud_design.specs.Arcs.{Arc, is_clocked}
use Rattle.bud_design.specs.Clocks.{Reaches}
use Rattle.bud_design.specs.Designs.{pin_at, is_inside, is_pin_of}
use Rattle.bud_design.specs.Lists.{Lists}
use Rattle.bud_design.specs.Orders.{same_edge, edge_before, edge_pin_before, launch_before, capture_before}
use Rattle.bud_design.specs.TimingRules.{IsSoundCheck}
use Rattle.clock_reach.specs.Reached.{AreSources, AreReached}
use Rattle.clock_reach.specs.Walks.{mark_at}
use Rattle.clock_reach.proofs.ReachLaws.{place-any}
use Rattle.requirements.specs.Constraining.{IsClockLaunch, IsLaunch, IsCheckCapture, IsCapture, IsUnclocked, AreConstraints}
use Rattle.requirements.specs.Gathering.{launch_of, capture_of, pin_unless}
use Rattle.requirements.specs.Ordering.{delay_before}
use Rattle.requirements.proofs.DelayLaws.{SameKeys, keys-same, same-by_keys}
use Rattle.requirements.proofs.Members.{some-same, filter_map-from, filter_map-has, contains-map, pairs-map, members-related, filter_map-pairs}
use Rattle.requirements.proofs.OrderLaws.{never-itself, same-delay}
use Rattle.requirements.proofs.ScopeLaws.{IsResult, resolved-sound}
use Rattle.requirements.proofs.SourceLaws.{sources-are}
use Rattle.timing_objects.specs.Objects.{Subject}
use Rattle.timing_scopes.specs.declared.scopes.PinDelay.{PinDelay}
use Rattle.timing_scopes.specs.declared.scopes.Scope.{Scope}
use Rattle.timing_scopes.specs.Resolving.{same_place}
use Rattle.block_theory.specs.BlockFiles.{input_amount, block_commands, numbered_from}
use Rattle.block_theory.specs.BlockPorts.{Context, input_nodes}
use Rattle.block_theory.specs.Blocks.{IsBlock, is_input_of, through_inside}
use Rattle.block_theory.specs.BlockScopes.{block_clocks, block_scope, delay_as, real_number}
use Rattle.block_theory.specs.Composition.{check_at}
use Rattle.block_theory.specs.Meeting.{Numbers, subject_with, timing_with}
use Rattle.block_theory.proofs.Insides.{leaf-no_input}
use Rattle.block_laws.specs.LayeredDesigns.{IsLayeredDesign}
use Rattle.block_laws.specs.Standing.{PathsStand}
use Rattle.block_laws.proofs.CheckAmounts.{HeldCheck-from}
use Rattle.block_laws.proofs.Readings.{PathsStand-given}
use Rattle.block_laws.proofs.ResolvedAlike.{resolved-same}
use Rattle.block_pieces.specs.BlockReach.{ComesFromTop}
use Rattle.block_pieces.proofs.BlockReaching.{reaches-inside, reaches-whole}
use Rattle.block_readings.proofs.FilesRead.{reads-as_meant}
use Rattle.block_readings.proofs.Ordered.{ordered}
use Rattle.block_readings.proofs.PortNodes.{input-is, inputs-differ}

-- ---- orders: by pin, clock and edge alone, where the places differ
strict-law : (a b c d e f g : Bool) → a || (b && (c || (d && (e || (f && g))))) ≡ true → b && (d && f) ≡ false → a || (b && (c || (d && e))) ≡ true
strict-law true b c d e f g is differ = refl
strict-law false false c d e f g is differ = is
strict-law false true true d e f g is differ = refl
strict-law false true false false e f g is differ = is
strict-law false true false true true f g is differ = refl
strict-law false true false true false false g is differ = is
strict-law false true false true false true g is differ = absurd (true≢false differ)

capture-law : (a b c d e f g : Bool) → (a || (b && (c || (d && e)))) || (b && (d && (f && g))) ≡ a || (b && (c || (d && (e || (f && g)))))
capture-law true b c d e f g = refl
capture-law false false c d e f g = refl
capture-law false true true d e f g = refl
capture-law false true false false e f g = refl
capture-law false true false true e f g = refl

launch-before : (x y : PinDelay) → delay_before x y ≡ true → same_place x y ≡ false → launch_before (launch_of x) (launch_of y) ≡ true
launch-before x y is differ =
    strict-law (nat_lt x.pin.0 y.pin.0) (x.pin.0 == y.pin.0) (nat_lt x.clock y.clock) (x.clock == y.clock) (edge_before x.edge y.edge) (same_edge x.edge y.edge) (int_lt x.amount y.amount) is differ

capture-before : (x y : PinDelay) → delay_before x y ≡ true → capture_before (capture_of x) (capture_of y) ≡ true
capture-before x y is =
    capture-law (nat_lt x.pin.0 y.pin.0) (x.pin.0 == y.pin.0) (nat_lt x.clock y.clock) (x.clock == y.clock) (edge_before x.edge y.edge) (same_edge x.edge y.edge) (int_lt x.amount y.amount) ∙ is

-- what is made of a number, where a test passes
chosen : {Y : Type 0} (b : Bool) (f : ℕ → Y) (o : Option ℕ) (y : Y) → (if b then option_map f o else None) ≡ Some y → (b ≡ true) × ((c : ℕ) × ((o ≡ Some c) × (f c ≡ y)))
chosen false f o y e = absurd (let wrong : None ≡ Some y = e in cc)
chosen true f None y e = absurd (let wrong : None ≡ Some y = e in cc)
chosen true f (Some c) y e = (refl, (c, (refl, some-same (f c) y e)))

left-out : (b : Bool) (v w : PinId) (o : Option ℕ) → (if b then pin_unless v o else None) ≡ Some w → (b ≡ true) × ((v ≡ w) × (o ≡ None))
left-out false v w o e = absurd (let wrong : None ≡ Some w = e in cc)
left-out true v w (Some c) e = absurd (let wrong : None ≡ Some w = e in cc)
left-out true v w None e = (refl, (some-same v w e, refl))

module _ (x : Context) (arcs : List Arc) (commands : List NumberedCommand) (policy : Policy) (given : IsLayeredDesign x.design x.timing arcs commands x.all policy x.layered)
    (block_is : IsBlock x.design x.block) (through : through_inside x.design (x.block ∷ []) x.all.exceptions ≡ None) (reached : AreReached x.design 0 x.all.clocks x.reached)
    (arrivals : List ℤ) (n : Numbers) (size : length n.amounts ≡ length x.timing.checks) where
  abbrev whole : Subject
  whole = record { design = x.design; root = 0; timing = x.timing }

  abbrev inner : Subject
  inner = subject_with x.design x.block x.timing n

  abbrev scope : Scope
  scope = block_scope x arrivals

  stand : PathsStand x.design x.timing x.all
  stand = PathsStand-given x.design x.timing arcs commands x.all policy x.layered given

  result : IsResult whole given.constraints.scope
  result = resolved-sound whole commands given.constraints.scope given.read given.numbers given.constraints.says

  sources : AreSources x.design x.all.clocks
  sources = subst (AreSources x.design) (sym given.constraints.clocks) (sources-are x.design given.design x.timing given.constraints.scope.clocks result.sound.clocks)

  -- ---- a clock pin inside: the block's clock is that of the whole design
  clock-leaf : (v : ℕ) → is_clocked x.timing v ≡ true → is_input_of x.design x.block v ≡ false
  clock-leaf v clocked = leaf-no_input x.design given.design x.block block_is v (stand.clocked v clocked)

  reaches-here : (c v : ℕ) → is_clocked x.timing v ≡ true → is_pin_of x.design x.block v ≡ true → mark_at x.reached v ≡ Some c → Reaches x.design x.block (block_clocks x) (real_number x c) v
  reaches-here c v clocked inside mark = reaches-inside x given.design block_is reached sources c v inside (clock-leaf v clocked) (reached.only v c mark)

  comes-from : (k v : ℕ) → Reaches x.design x.block (block_clocks x) k v → ComesFromTop x k v
  comes-from k v reaches = reaches-whole x given.design block_is reached sources k v reaches

  edge-clocked : (pin : PinId) (edge : Edge) → Contains x.timing.edges (record { pin = pin; edge = edge }) → is_clocked x.timing pin.0 ≡ true
  edge-clocked pin edge has =
      place-any (λ (e : LaunchEdge). e.pin.0 == pin.0) (record { pin = pin; edge = edge }) x.timing.edges has.0 has.1 (eq-eqb _ pin.0 (ap (λ (e : LaunchEdge). e.pin.0) has.2))

  -- ---- launches
  abbrev clock_delay : LaunchEdge → Option PinDelay
  clock_delay e =
      if is_pin_of x.design x.block e.pin.0 then option_map (λ c. record { pin = e.pin; clock = real_number x c; edge = e.edge; amount = pos 0 }) (mark_at x.reached e.pin.0) else None

  clock-delay-is : (y : PinDelay) → Contains (filter_map clock_delay x.timing.edges) y → IsClockLaunch inner scope (launch_of y)
  clock-delay-is y has =
      let found = filter_map-from clock_delay x.timing.edges y has in
      let e : LaunchEdge = found.from in
      let made = chosen (is_pin_of x.design x.block e.pin.0) (λ c. record { pin = e.pin; clock = real_number x c; edge = e.edge; amount = pos 0 }) (mark_at x.reached e.pin.0) y found.gives in
      let delay : PinDelay = record { pin = e.pin; clock = real_number x made.1.0; edge = e.edge; amount = pos 0 } in
      let is : IsClockLaunch inner scope (launch_of delay)
      = record { within = made.0; edge = found.member; reached = reaches-here made.1.0 e.pin.0 (edge-clocked e.pin e.edge found.member) made.0 made.1.1.0; offset = refl } in
      subst (λ (z : PinDelay). IsClockLaunch inner scope (launch_of z)) made.1.1.1 is

  abbrev delay_of : Launch → PinDelay
  delay_of l = record { pin = l.pin; clock = l.clock; edge = l.edge; amount = l.offset }

  clock-delay-has : (l : Launch) → IsClockLaunch inner scope l → Contains (filter_map clock_delay x.timing.edges) (delay_of l)
  clock-delay-has l is =
      let from = comes-from l.clock l.pin.0 is.reached in
      let gives : clock_delay (record { pin = l.pin; edge = l.edge }) ≡ Some (record { pin = l.pin; clock = real_number x from.clock; edge = l.edge; amount = pos 0 })
      = rw (is.within, reached.all l.pin.0 from.clock from.reaches) refl in
      filter_map-has clock_delay x.timing.edges (record { pin = l.pin; edge = l.edge }) (delay_of l) is.edge
      (gives
      ∙ (ap (λ k. Some (record { pin = l.pin; clock = k; edge = l.edge; amount = pos 0 })) (sym from.number)
      ∙ ap (λ (a : ℤ). Some (record { pin = l.pin; clock = l.clock; edge = l.edge; amount = a })) (sym is.offset)))

  abbrev IsLaunchDelay : PinDelay → Type 0
  IsLaunchDelay y = Contains scope.inputs y ⊎ IsClockLaunch inner scope (launch_of y)

  inputs-one : AllPairs (λ y z. same_place y z ≡ false) scope.inputs
  inputs-one =
      pairs-map (λ y z. same_place y z ≡ false) (delay_as x (input_amount arrivals)) (input_nodes x.design x.layered x.block)
      (λ i j d less below. (inputs-differ x arcs commands policy given block_is through reached (input_amount arrivals) i j d less below).0)

  inputs-are : All (λ y. is_input_of x.design x.block y.pin.0 ≡ true) scope.inputs
  inputs-are =
      All-map (λ (y : PinDelay). is_input_of x.design x.block y.pin.0 ≡ true) (delay_as x (input_amount arrivals)) (input_nodes x.design x.layered x.block)
      (λ i e less. input-is x arcs commands policy given block_is through reached (slice_index_or (input_nodes x.design x.layered x.block) i e) (Contains-get_or (input_nodes x.design x.layered x.block) i e less))

  one-input : (y z : PinDelay) → Contains scope.inputs y → Contains scope.inputs z → SameKeys y z → same_place y z ≡ true → y ≡ z
  one-input y z hasy hasz keys same = elim (members-related (λ y z. same_place y z ≡ false) scope.inputs y z inputs-one hasy hasz) [
    | inl is ↦ is
    | inr differ ↦ elim differ [
      | inl one ↦ absurd (true≢false (sym same ∙ one))
      | inr other ↦ absurd (true≢false (sym (same-by_keys z y (record { pin = sym keys.pin; clock = sym keys.clock; edge = sym keys.edge })) ∙ other))
    ]
  ]

  input-no_clock : (y z : PinDelay) → Contains scope.inputs y → IsClockLaunch inner scope (launch_of z) → y.pin.0 ≡ z.pin.0 → ⊥
  input-no_clock y z hasy isz same =
      true≢false (sym (subst (λ v. is_input_of x.design x.block v ≡ true) same (All-contains (λ (d : PinDelay). is_input_of x.design x.block d.pin.0 ≡ true) scope.inputs y inputs-are hasy))
      ∙ clock-leaf z.pin.0 (edge-clocked z.pin z.edge isz.edge))

  one-launch_delay : (y z : PinDelay) → IsLaunchDelay y → IsLaunchDelay z → same_place y z ≡ true → y ≡ z
  one-launch_delay y z (inl hasy) (inl hasz) same = one-input y z hasy hasz (keys-same y z same) same
  one-launch_delay y z (inl hasy) (inr isz) same = absurd (input-no_clock y z hasy isz (keys-same y z same).pin)
  one-launch_delay y z (inr isy) (inl hasz) same = absurd (input-no_clock z y hasz isy (sym (keys-same y z same).pin))
  one-launch_delay y z (inr isy) (inr isz) same = (let keys = keys-same y z same in same-delay y z keys.pin keys.clock keys.edge (isy.offset ∙ sym isz.offset))

  differ-before : (y z : PinDelay) → IsLaunchDelay y → IsLaunchDelay z → delay_before y z ≡ true → same_place y z ≡ false
  differ-before y z isy isz before = by_test (same_place y z) refl
    where
      by_test : (b : Bool) → same_place y z ≡ b → b ≡ false
      by_test true same = absurd (never-itself z (subst (λ (w : PinDelay). delay_before w z ≡ true) (one-launch_delay y z isy isz same) before))
      by_test false same = refl

  abbrev launch_delays : List PinDelay
  launch_delays = scope.inputs ++ filter_map clock_delay x.timing.edges

  launch_delay-is : (y : PinDelay) → Contains launch_delays y → IsLaunchDelay y
  launch_delay-is y has = elim (Contains-append_cases scope.inputs (filter_map clock_delay x.timing.edges) y has) [ inl input ↦ inl input | inr clock ↦ inr (clock-delay-is y clock) ]

  is-launch : (y : PinDelay) → IsLaunchDelay y → IsLaunch inner scope (launch_of y)
  is-launch y (inl input) = inl input
  is-launch y (inr clock) = inr clock

  has-launch : (l : Launch) → IsLaunch inner scope l → Contains launch_delays (delay_of l)
  has-launch l (inl port) = Contains-append_left scope.inputs (filter_map clock_delay x.timing.edges) (delay_of l) port
  has-launch l (inr clock) = Contains-append_right scope.inputs (filter_map clock_delay x.timing.edges) (delay_of l) (clock-delay-has l clock)

  launches-are : (launches : List Launch) × Lists launch_before (IsLaunch inner scope) launches
  launches-are =
      let order = ordered launch_delays in
      let all = order.0 in
      let delayed : (k : ℕ) (e : PinDelay) → k < length all → IsLaunchDelay (slice_index_or all k e)
      = λ k e below. launch_delay-is (slice_index_or all k e) (order.1.only (slice_index_or all k e) (Contains-get_or all k e below)) in (
        map launch_of all,
        record {
          rising = pairs-map (λ l m. launch_before l m ≡ true) launch_of all
              (λ i j e less below. (let before = order.1.rising i j e less below in
              launch-before (slice_index_or all i e) (slice_index_or all j e) before (differ-before (slice_index_or all i e) (slice_index_or all j e) (delayed i e (omega (arith, less, below))) (delayed j e below) before)));
          sound = All-map (IsLaunch inner scope) launch_of all (λ k e below. is-launch (slice_index_or all k e) (delayed k e below));
          complete = λ l such. contains-map launch_of all (delay_of l) (order.1.every (delay_of l) (has-launch l such));
        },
      )

  -- ---- captures
  abbrev held : List Check
  held = (timing_with x.timing n).checks

  abbrev check_delay : Check → Option PinDelay
  check_delay c =
      if is_pin_of x.design x.block c.pin.0 then option_map (λ k. record { pin = c.pin; clock = real_number x k; edge = c.edge; amount = c.amount }) (mark_at x.reached c.clock.0) else None

  -- a check's clock pin is one, and stands in the block with its data pin
  record HasClock (c : Check) : Type 0 where
    pub clocked : is_clocked x.timing c.clock.0 ≡ true
    pub together : (pin_at x.design.pins c.pin.0).place ≡ (pin_at x.design.pins c.clock.0).place

  has-clock : (c : Check) → Contains held c → HasClock c
  has-clock c has =
      let found = HeldCheck-from x.timing.checks n.amounts c size has in
      let as_read = found.has.read in
      let read : Check = record { pin = c.pin; clock = c.clock; edge = c.edge; amount = (check_at x.timing.checks found.has.number).amount } in
      record {
        clocked = (All-contains (IsSoundCheck x.design x.timing) x.timing.checks read given.timing.checks as_read).clock;
        together = All-contains (λ (c : Check). (pin_at x.design.pins c.pin.0).place ≡ (pin_at x.design.pins c.clock.0).place) x.timing.checks read given.together as_read;
      }

  check-delay-is : (y : PinDelay) → Contains (filter_map check_delay held) y → IsCheckCapture inner scope (capture_of y)
  check-delay-is y has =
      let found = filter_map-from check_delay held y has in
      let c : Check = found.from in
      let made = chosen (is_pin_of x.design x.block c.pin.0) (λ k. record { pin = c.pin; clock = real_number x k; edge = c.edge; amount = c.amount }) (mark_at x.reached c.clock.0) y found.gives in
      let delay : PinDelay = record { pin = c.pin; clock = real_number x made.1.0; edge = c.edge; amount = c.amount } in
      let clock = has-clock c found.member in
      let inside : is_pin_of x.design x.block c.clock.0 ≡ true = subst (λ p. is_inside x.design.places x.block p ≡ true) clock.together made.0 in
      let is : IsCheckCapture inner scope (capture_of delay)
      = record { within = made.0; clock_pin = c.clock; check = found.member; reached = reaches-here made.1.0 c.clock.0 clock.clocked inside made.1.1.0 } in
      subst (λ (z : PinDelay). IsCheckCapture inner scope (capture_of z)) made.1.1.1 is

  abbrev delay_at : Capture → PinDelay
  delay_at y = record { pin = y.pin; clock = y.clock; edge = y.edge; amount = y.amount }

  check-delay-has : (y : Capture) → IsCheckCapture inner scope y → Contains (filter_map check_delay held) (delay_at y)
  check-delay-has y is =
      let c : Check = record { pin = y.pin; clock = is.clock_pin; edge = y.edge; amount = y.amount } in
      let from = comes-from y.clock is.clock_pin.0 is.reached in
      let gives : check_delay c ≡ Some (record { pin = y.pin; clock = real_number x from.clock; edge = y.edge; amount = y.amount }) = rw (is.within, reached.all is.clock_pin.0 from.clock from.reaches) refl in
      filter_map-has check_delay held c (delay_at y) is.check (gives ∙ ap (λ k. Some (record { pin = y.pin; clock = k; edge = y.edge; amount = y.amount })) (sym from.number))

  abbrev capture_delays : List PinDelay
  capture_delays = scope.outputs ++ filter_map check_delay held

  is-capture : (y : PinDelay) → Contains capture_delays y → IsCapture inner scope (capture_of y)
  is-capture y has = elim (Contains-append_cases scope.outputs (filter_map check_delay held) y has) [ inl output ↦ inl output | inr check ↦ inr (check-delay-is y check) ]

  has-capture : (y : Capture) → IsCapture inner scope y → Contains capture_delays (delay_at y)
  has-capture y (inl port) = Contains-append_left scope.outputs (filter_map check_delay held) (delay_at y) port
  has-capture y (inr check) = Contains-append_right scope.outputs (filter_map check_delay held) (delay_at y) (check-delay-has y check)

  captures-are : (captures : List Capture) × Lists capture_before (IsCapture inner scope) captures
  captures-are =
      let order = ordered capture_delays in
      let all = order.0 in (
        map capture_of all,
        record {
          rising = pairs-map (λ y z. capture_before y z ≡ true) capture_of all (λ i j e less below. capture-before (slice_index_or all i e) (slice_index_or all j e) (order.1.rising i j e less below));
          sound = All-map (IsCapture inner scope) capture_of all (λ k e below. is-capture (slice_index_or all k e) (order.1.only (slice_index_or all k e) (Contains-get_or all k e below)));
          complete = λ y such. contains-map capture_of all (delay_at y) (order.1.every (delay_at y) (has-capture y such));
        },
      )

  -- ---- clock pins that no clock reaches
  abbrev unclocked_pin : LaunchEdge → Option PinId
  unclocked_pin e = if is_pin_of x.design x.block e.pin.0 then pin_unless e.pin (mark_at x.reached e.pin.0) else None

  abbrev free_pins : List PinId
  free_pins = filter_map unclocked_pin x.timing.edges

  is-unclocked : (v : PinId) → Contains free_pins v → IsUnclocked inner scope v
  is-unclocked v has =
      let found = filter_map-from unclocked_pin x.timing.edges v has in
      let e : LaunchEdge = found.from in
      let free = left-out (is_pin_of x.design x.block e.pin.0) e.pin v (mark_at x.reached e.pin.0) found.gives in
      let is : IsUnclocked inner scope e.pin = record {
        within = free.0;
        edge = e.edge;
        clock_pin = found.member;
        unreached = λ c reaches.
            (let from = comes-from c e.pin.0 reaches in
            let wrong : None ≡ Some from.clock = sym free.1.1 ∙ reached.all e.pin.0 from.clock from.reaches in
            absurd (cc));
      } in
      subst (IsUnclocked inner scope) free.1.0 is

  no-mark : (v : PinId) (o : Option ℕ) → ((c : ℕ) → o ≡ Some c → ⊥) → pin_unless v o ≡ Some v
  no-mark v None none = refl
  no-mark v (Some c) none = absurd (none c refl)

  has-unclocked : (v : PinId) → IsUnclocked inner scope v → Contains free_pins v
  has-unclocked v is =
      let unmarked = no-mark v (mark_at x.reached v.0) (λ c mark. is.unreached (real_number x c) (reaches-here c v.0 (edge-clocked v is.edge is.clock_pin) is.within mark)) in
      filter_map-has unclocked_pin x.timing.edges (record { pin = v; edge = is.edge }) v is.clock_pin (rw is.within unmarked)

  unclocked-are : Lists (λ v w. nat_lt v.0 w.0) (IsUnclocked inner scope) free_pins
  unclocked-are = record {
    rising = filter_map-pairs (λ e f. edge_pin_before e f ≡ true) (λ v w. nat_lt v.0 w.0 ≡ true) unclocked_pin
        (λ e f v w before givese givesf.
        (let freee = left-out (is_pin_of x.design x.block e.pin.0) e.pin v (mark_at x.reached e.pin.0) givese in
        let freef = left-out (is_pin_of x.design x.block f.pin.0) f.pin w (mark_at x.reached f.pin.0) givesf in
        ap (λ (u : PinId). nat_lt u.0 w.0) (sym freee.1.0) ∙ (ap (λ (u : PinId). nat_lt e.pin.0 u.0) (sym freef.1.0) ∙ before)))
        x.timing.edges given.timing.edge_order;
    sound = λ k e below. is-unclocked (slice_index_or free_pins k e) (Contains-get_or free_pins k e below);
    complete = λ v such. has-unclocked v such;
  }

  pub accepted : (block : Constraints) × AreConstraints inner (numbered_from 1 (block_commands x arrivals)) block
  accepted = (
    record { clocks = scope.clocks; launches = launches-are.0; captures = captures-are.0; exceptions = scope.exceptions; unclocked = free_pins },
    record {
      scope = scope;
      says = resolved-same x.design x.block x.timing n size (numbered_from 1 (block_commands x arrivals)) ∙ reads-as_meant x arcs commands policy given block_is through reached arrivals;
      clocks = refl;
      exceptions = refl;
      launches = launches-are.1;
      captures = captures-are.1;
      unclocked = unclocked-are;
    },
  )
