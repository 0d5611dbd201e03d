-- The gathered delays are the launches and captures of the design.
use Rattle.std.proofs.Common.{◌≡◌, ℕ, ◌<◌, ◌==◌, ◌&&◌, ◌||◌, Bool, true, false, List, ◌++◌, length, get_or, Option, Some, None, refl, sym, ◌∙◌, ap, subst, arith, true≢false, eq-eqb, inl, inr, ◌⊎◌}
use Rattle.std.specs.Prelude.{All, AllPairs, Contains, filter_map, nat_lt, int_lt, ℤ, pos}
use Rattle.std.specs.Option.{option_map}
use Rattle.std.proofs.lemmas.Int.{ints}
use Rattle.std.proofs.lemmas.Bool.Decides.{Decides-eqb}
use Rattle.std.proofs.lemmas.List.Elements.{All-map, All-weaker, All-contains, Contains-append_left, Contains-append_right, Contains-append_cases, Contains-get_or}
use Rattle.bud_base.specs.declared.ids.PinId.{PinId}
use Rattle.bud_syntax.specs.declared.edges.Edge.{Edge}
use Rattle.bud_syntax.specs.Ranges.{IsReadTime}
use Rattle.bud_design.specs.declared.clocks.Clock.{Clock}
use Rattle.bud_design.specs.declared.clocks.Launch.{Launch}
use Rattle.bud_design.specs.declared.clocks.Capture.{Capture}
use Rattle.bud_design.specs.declared.clocks.Constraints.{Constraints}
use Rattle.bud_design.specs.declared.clocks.Exception.{Exception}
use Rattle.bud_design.specs.declared.timings.Check.{Check}
use Rattle.bud_design.specs.declared.timings.LaunchEdge.{LaunchEdge}
use Rattle.bud_design.specs.declared.timings.Timing.{Timing}
use Rattle.bud_design.specs.Arcs.{is_clocked}
use Rattle.bud_design.specs.Clocks.{IsSoundClock}
use Rattle.bud_design.specs.ConstraintRules.{AreSoundConstraints, HasMarksBelow, IsSoundKind}
use Rattle.bud_design.specs.Designs.{Design}
use Rattle.bud_design.specs.DesignRules.{IsDesign}
use Rattle.bud_design.specs.Lists.{Lists}
use Rattle.bud_design.specs.Orders.{same_edge, edge_before, edge_pin_before, launch_before, capture_before}
use Rattle.bud_design.specs.TimingRules.{IsSoundTiming, IsSoundCheck}
use Rattle.clock_reach.specs.Walks.{mark_at}
use Rattle.clock_reach.specs.Reached.{AreReached}
use Rattle.clock_reach.proofs.ReachLaws.{place-any, any-place}
use Rattle.timing_objects.specs.declared.things.Role.TheVariants.{Input, Output}
use Rattle.timing_objects.specs.Objects.{Subject, is_input_bit, is_output_bit}
use Rattle.timing_scopes.specs.declared.scopes.PinDelay.{PinDelay}
use Rattle.timing_scopes.specs.declared.scopes.Scope.{Scope}
use Rattle.timing_scopes.specs.Resolving.{same_place}
use Rattle.requirements.specs.Constraining.{IsClockLaunch, IsLaunch, IsCheckCapture, IsCapture, IsUnclocked}
use Rattle.requirements.specs.Gathering.{clock_delay, check_delay, pin_unless, unclocked_pin, launch_of, capture_of, AreLaunches, AreCaptures}
use Rattle.requirements.specs.LeafTimings.{IsLeafPin, StandsInLeaves}
use Rattle.requirements.specs.Ordering.{delay_before}
use Rattle.requirements.specs.SoundScopes.{IsDelayAs, IsSoundScope}
use Rattle.requirements.proofs.DelayLaws.{SameKeys, keys-same, same-by_keys}
use Rattle.requirements.proofs.Members.{some-same, filter_map-from, filter_map-has, contains-map, pairs-map, members-related, filter_map-pairs}
use Rattle.requirements.proofs.OrderLaws.{never-itself, same-delay}
use Rattle.requirements.proofs.ScopeLaws.{Rise}
use Rattle.requirements.proofs.SourceLaws.{input-undriven, pin-inside, reached-driven, leaf-no_top, input-top, output-top, input-differs_output}

-- ---- clock pins are marked or not
pub edges-below : (d : Design) (t : Timing) (reached : List (Option ℕ)) (edges : List LaunchEdge) (marks : List (Option ℕ)) → IsSoundTiming d t → length reached ≡ length d.pins
    → edges ≡ t.edges → marks ≡ reached → All (λ e. e.pin.0 < length marks) edges
edges-below d t reached edges marks timing size is are =
    subst (λ (es : List LaunchEdge). All (λ (e : LaunchEdge). e.pin.0 < length marks) es) (sym is)
    (All-weaker (λ (e : LaunchEdge). e.pin.0 < length d.pins) (λ (e : LaunchEdge). e.pin.0 < length marks) (λ e below. omega (arith, below, size, ap length are)) t.edges timing.edges)

pub checks-below : (d : Design) (t : Timing) (reached : List (Option ℕ)) (checks : List Check) (marks : List (Option ℕ)) → IsSoundTiming d t → length reached ≡ length d.pins
    → checks ≡ t.checks → marks ≡ reached → All (λ x. x.clock.0 < length marks) checks
checks-below d t reached checks marks timing size is are =
    subst (λ (xs : List Check). All (λ (x : Check). x.clock.0 < length marks) xs) (sym is)
    (All-weaker (IsSoundCheck d t) (λ (x : Check). x.clock.0 < length marks) clock_below t.checks timing.checks)
  where
    clock_below : (x : Check) → IsSoundCheck d t x → x.clock.0 < length marks
    clock_below x sound =
        let found = any-place (λ (e : LaunchEdge). e.pin.0 == x.clock.0) (record { pin = x.clock; edge = x.edge }) t.edges sound.clock in
        let same : (get_or t.edges found.0 (record { pin = x.clock; edge = x.edge })).pin.0 ≡ x.clock.0 = (Decides-eqb (get_or t.edges found.0 (record { pin = x.clock; edge = x.edge })).pin.0 x.clock.0).0 found.2 in
        omega (arith, timing.edges found.0 (record { pin = x.clock; edge = x.edge }) found.1, same, size, ap length are)

-- ---- orders
-- by pin, clock and edge alone, where the places differ
strict-law : (a b c d e f g : Bool) → a || (b && (c || (d && (e || (f && g))))) ≡ true → b && (d && f) ≡ false → a || (b && (c || (d && e))) ≡ true
strict-law true b c d e f g is differ = refl
strict-law false false c d e f g is differ = is
strict-law false true true d e f g is differ = refl
strict-law false true false false e f g is differ = is
strict-law false true false true true f g is differ = refl
strict-law false true false true false false g is differ = is
strict-law false true false true false true g is differ = absurd (true≢false differ)

capture-law : (a b c d e f g : Bool) → (a || (b && (c || (d && e)))) || (b && (d && (f && g))) ≡ a || (b && (c || (d && (e || (f && g)))))
capture-law true b c d e f g = refl
capture-law false false c d e f g = refl
capture-law false true true d e f g = refl
capture-law false true false false e f g = refl
capture-law false true false true e f g = refl

launch-before : (x y : PinDelay) → delay_before x y ≡ true → same_place x y ≡ false → launch_before (launch_of x) (launch_of y) ≡ true
launch-before x y is differ =
    strict-law (nat_lt x.pin.0 y.pin.0) (x.pin.0 == y.pin.0) (nat_lt x.clock y.clock) (x.clock == y.clock) (edge_before x.edge y.edge) (same_edge x.edge y.edge) (int_lt x.amount y.amount) is differ

capture-before : (x y : PinDelay) → delay_before x y ≡ true → capture_before (capture_of x) (capture_of y) ≡ true
capture-before x y is =
    capture-law (nat_lt x.pin.0 y.pin.0) (x.pin.0 == y.pin.0) (nat_lt x.clock y.clock) (x.clock == y.clock) (edge_before x.edge y.edge) (same_edge x.edge y.edge) (int_lt x.amount y.amount) ∙ is

-- ---- what a clock's delays say
pub record IsClockDelay (t : Timing) (reached : List (Option ℕ)) (y : PinDelay) : Type 0 where
  pub edge : Contains t.edges (record { pin = y.pin; edge = y.edge })
  pub mark : mark_at reached y.pin.0 ≡ Some y.clock
  pub amount : y.amount ≡ pos 0

pub record IsCheckDelay (t : Timing) (reached : List (Option ℕ)) (y : PinDelay) : Type 0 where
  pub clock_pin : PinId
  pub check : Contains t.checks (record { pin = y.pin; clock = clock_pin; edge = y.edge; amount = y.amount })
  pub mark : mark_at reached clock_pin.0 ≡ Some y.clock

map-some : {X Y : Type 0} (f : X → Y) (o : Option X) (y : Y) → option_map f o ≡ Some y → (x : X) × ((o ≡ Some x) × (f x ≡ y))
map-some f None y e = absurd (let wrong : None ≡ Some y = e in cc)
map-some f (Some x) y e = (x, (refl, some-same (f x) y e))

clock-delay-is : (t : Timing) (reached : List (Option ℕ)) (y : PinDelay) → Contains (filter_map (clock_delay reached) t.edges) y → IsClockDelay t reached y
clock-delay-is t reached y has =
    let found = filter_map-from (clock_delay reached) t.edges y has in
    let e : LaunchEdge = found.from in
    let marked = map-some (λ c. record { pin = e.pin; clock = c; edge = e.edge; amount = pos 0 }) (mark_at reached e.pin.0) y found.gives in
    let made : PinDelay = record { pin = e.pin; clock = marked.0; edge = e.edge; amount = pos 0 } in
    let first : IsClockDelay t reached made = record { edge = found.member; mark = marked.1.0; amount = refl } in
    subst (IsClockDelay t reached) marked.1.1 first

clock-delay-has : (t : Timing) (reached : List (Option ℕ)) (y : PinDelay) → IsClockDelay t reached y → Contains (filter_map (clock_delay reached) t.edges) y
clock-delay-has t reached y is =
    filter_map-has (clock_delay reached) t.edges (record { pin = y.pin; edge = y.edge }) y is.edge
    (ap (option_map (λ c. record { pin = y.pin; clock = c; edge = y.edge; amount = pos 0 })) is.mark
    ∙ ap (λ (a : ℤ). Some (record { pin = y.pin; clock = y.clock; edge = y.edge; amount = a })) (sym is.amount))

check-delay-is : (t : Timing) (reached : List (Option ℕ)) (y : PinDelay) → Contains (filter_map (check_delay reached) t.checks) y → IsCheckDelay t reached y
check-delay-is t reached y has =
    let found = filter_map-from (check_delay reached) t.checks y has in
    let x : Check = found.from in
    let marked = map-some (λ c. record { pin = x.pin; clock = c; edge = x.edge; amount = x.amount }) (mark_at reached x.clock.0) y found.gives in
    let made : PinDelay = record { pin = x.pin; clock = marked.0; edge = x.edge; amount = x.amount } in
    let first : IsCheckDelay t reached made = record { clock_pin = x.clock; check = found.member; mark = marked.1.0 } in
    subst (IsCheckDelay t reached) marked.1.1 first

check-delay-has : (t : Timing) (reached : List (Option ℕ)) (y : PinDelay) → IsCheckDelay t reached y → Contains (filter_map (check_delay reached) t.checks) y
check-delay-has t reached y is =
    filter_map-has (check_delay reached) t.checks (record { pin = y.pin; clock = is.clock_pin; edge = y.edge; amount = y.amount }) y is.check
    (ap (option_map (λ c. record { pin = y.pin; clock = c; edge = y.edge; amount = y.amount })) is.mark)

module _ (d : Design) (design : IsDesign d) (t : Timing) (timing : IsSoundTiming d t) (scope : Scope) (reached : List (Option ℕ)) where
  abbrev whole : Subject
  whole = record { design = d; root = 0; timing = t }

  module _ (sound : IsSoundScope whole scope) (are : AreReached d 0 scope.clocks reached) where
    edge-below : (v : PinId) (e : Edge) → Contains t.edges (record { pin = v; edge = e }) → v.0 < length d.pins
    edge-below v e has = All-contains (λ (x : LaunchEdge). x.pin.0 < length d.pins) t.edges (record { pin = v; edge = e }) timing.edges has

    check-sound : (x : Check) → Contains t.checks x → IsSoundCheck d t x
    check-sound x has = All-contains (IsSoundCheck d t) t.checks x timing.checks has

    input-as : (y : PinDelay) → Contains scope.inputs y → IsDelayAs whole Input (length scope.clocks) y
    input-as y has = All-contains (IsDelayAs whole Input (length scope.clocks)) scope.inputs y sound.inputs.each has

    output-as : (y : PinDelay) → Contains scope.outputs y → IsDelayAs whole Output (length scope.clocks) y
    output-as y has = All-contains (IsDelayAs whole Output (length scope.clocks)) scope.outputs y sound.outputs.each has

    -- ---- launches
    clock-launch : (y : PinDelay) → IsClockDelay t reached y → IsClockLaunch whole scope (launch_of y)
    clock-launch y is = record {
      within = pin-inside d design t y.pin.0 (edge-below y.pin y.edge is.edge);
      edge = is.edge;
      reached = are.only y.pin.0 y.clock is.mark;
      offset = is.amount;
    }

    launch-clock : (l : Launch) → IsClockLaunch whole scope l → IsClockDelay t reached (record { pin = l.pin; clock = l.clock; edge = l.edge; amount = l.offset })
    launch-clock l is = record { edge = is.edge; mark = are.all l.pin.0 l.clock is.reached; amount = is.offset }

    -- two delays of launches at one place are one
    one-clock_delay : (x y : PinDelay) → IsClockDelay t reached x → IsClockDelay t reached y → SameKeys x y → x ≡ y
    one-clock_delay x y isx isy keys = same-delay x y keys.pin keys.clock keys.edge (isx.amount ∙ sym isy.amount)

    one-input : (x y : PinDelay) → Contains scope.inputs x → Contains scope.inputs y → SameKeys x y → same_place x y ≡ true → x ≡ y
    one-input x y hasx hasy keys same = elim (members-related (λ x y. same_place x y ≡ false) scope.inputs x y sound.inputs.one hasx hasy) [
      | inl is ↦ is
      | inr differ ↦ elim differ [
        | inl one ↦ absurd (true≢false (sym same ∙ one))
        | inr other ↦ absurd (true≢false (sym (same-by_keys y x (record { pin = sym keys.pin; clock = sym keys.clock; edge = sym keys.edge })) ∙ other))
      ]
    ]

    input-no_clock : (x y : PinDelay) → Contains scope.inputs x → IsClockDelay t reached y → x.pin.0 ≡ y.pin.0 → ⊥
    input-no_clock x y hasx isy same =
        reached-driven d design t scope.clocks y.clock y.pin.0 (are.only y.pin.0 y.clock isy.mark)
        (input-undriven d design t y.pin.0 (subst (λ v. is_input_bit whole v ≡ true) same (input-as x hasx).pin.may_be))

    abbrev IsLaunchDelay : PinDelay → Type 0
    IsLaunchDelay y = Contains scope.inputs y ⊎ IsClockDelay t reached y

    one-launch_delay : (x y : PinDelay) → IsLaunchDelay x → IsLaunchDelay y → same_place x y ≡ true → x ≡ y
    one-launch_delay x y (inl hasx) (inl hasy) same = one-input x y hasx hasy (keys-same x y same) same
    one-launch_delay x y (inl hasx) (inr isy) same = absurd (input-no_clock x y hasx isy (keys-same x y same).pin)
    one-launch_delay x y (inr isx) (inl hasy) same = absurd (input-no_clock y x hasy isx (sym (keys-same x y same).pin))
    one-launch_delay x y (inr isx) (inr isy) same = one-clock_delay x y isx isy (keys-same x y same)

    differ-before : (x y : PinDelay) → IsLaunchDelay x → IsLaunchDelay y → delay_before x y ≡ true → same_place x y ≡ false
    differ-before x y isx isy before = by_test (same_place x y) refl
      where
        by_test : (b : Bool) → same_place x y ≡ b → same_place x y ≡ false
        by_test true same = absurd (never-itself y (subst (λ (z : PinDelay). delay_before z y ≡ true) (one-launch_delay x y isx isy same) before))
        by_test false same = same

    launch_delay-is : (y : PinDelay) → Contains (scope.inputs ++ filter_map (clock_delay reached) t.edges) y → IsLaunchDelay y
    launch_delay-is y has = elim (Contains-append_cases scope.inputs (filter_map (clock_delay reached) t.edges) y has) [ inl input ↦ inl input | inr clock ↦ inr (clock-delay-is t reached y clock) ]

    is-launch : (y : PinDelay) → IsLaunchDelay y → IsLaunch whole scope (launch_of y)
    is-launch y (inl input) = inl input
    is-launch y (inr clock) = inr (clock-launch y clock)

    abbrev delay_of : Launch → PinDelay
    delay_of l = record { pin = l.pin; clock = l.clock; edge = l.edge; amount = l.offset }

    has-launch : (l : Launch) → IsLaunch whole scope l → Contains (scope.inputs ++ filter_map (clock_delay reached) t.edges) (delay_of l)
    has-launch l (inl port) = Contains-append_left scope.inputs (filter_map (clock_delay reached) t.edges) (delay_of l) port
    has-launch l (inr clock) = Contains-append_right scope.inputs (filter_map (clock_delay reached) t.edges) (delay_of l) (clock-delay-has t reached (delay_of l) (launch-clock l clock))

    pub launches-are : (launches : List Launch) → AreLaunches scope.inputs t.edges reached launches → Lists launch_before (IsLaunch whole scope) launches
    launches-are launches is =
        let all = is.delays in
        let delayed : (k : ℕ) (e : PinDelay) → k < length all → IsLaunchDelay (get_or all k e) = λ k e below. launch_delay-is (get_or all k e) (is.ordered.only (get_or all k e) (Contains-get_or all k e below)) in
        subst (Lists launch_before (IsLaunch whole scope)) (sym is.launches_are) (record {
          rising = pairs-map (λ l m. launch_before l m ≡ true) launch_of all
              (λ i j e less below. (let before = is.ordered.rising i j e less below in
              launch-before (get_or all i e) (get_or all j e) before (differ-before (get_or all i e) (get_or all j e) (delayed i e (omega (arith, less, below))) (delayed j e below) before)));
          sound = All-map (IsLaunch whole scope) launch_of all (λ k e below. is-launch (get_or all k e) (delayed k e below));
          complete = λ l such. contains-map launch_of all (delay_of l) (is.ordered.every (delay_of l) (has-launch l such));
        })

    -- ---- captures
    abbrev IsCaptureDelay : PinDelay → Type 0
    IsCaptureDelay y = Contains scope.outputs y ⊎ IsCheckDelay t reached y

    capture_delay-is : (y : PinDelay) → Contains (scope.outputs ++ filter_map (check_delay reached) t.checks) y → IsCaptureDelay y
    capture_delay-is y has = elim (Contains-append_cases scope.outputs (filter_map (check_delay reached) t.checks) y has) [ inl output ↦ inl output | inr check ↦ inr (check-delay-is t reached y check) ]

    check-capture : (y : PinDelay) → IsCheckDelay t reached y → IsCheckCapture whole scope (capture_of y)
    check-capture y is = record {
      within = pin-inside d design t y.pin.0 (check-sound (record { pin = y.pin; clock = is.clock_pin; edge = y.edge; amount = y.amount }) is.check).pin;
      clock_pin = is.clock_pin;
      check = is.check;
      reached = are.only is.clock_pin.0 y.clock is.mark;
    }

    is-capture : (y : PinDelay) → IsCaptureDelay y → IsCapture whole scope (capture_of y)
    is-capture y (inl output) = inl output
    is-capture y (inr check) = inr (check-capture y check)

    abbrev delay_at : Capture → PinDelay
    delay_at x = record { pin = x.pin; clock = x.clock; edge = x.edge; amount = x.amount }

    has-capture : (x : Capture) → IsCapture whole scope x → Contains (scope.outputs ++ filter_map (check_delay reached) t.checks) (delay_at x)
    has-capture x (inl port) = Contains-append_left scope.outputs (filter_map (check_delay reached) t.checks) (delay_at x) port
    has-capture x (inr check) = Contains-append_right scope.outputs (filter_map (check_delay reached) t.checks) (delay_at x)
        (check-delay-has t reached (delay_at x) (record { clock_pin = check.clock_pin; check = check.check; mark = are.all check.clock_pin.0 x.clock check.reached }))

    pub captures-are : (captures : List Capture) → AreCaptures scope.outputs t.checks reached captures → Lists capture_before (IsCapture whole scope) captures
    captures-are captures is =
        let all = is.delays in
        subst (Lists capture_before (IsCapture whole scope)) (sym is.captures_are) (record {
          rising = pairs-map (λ x y. capture_before x y ≡ true) capture_of all (λ i j e less below. capture-before (get_or all i e) (get_or all j e) (is.ordered.rising i j e less below));
          sound = All-map (IsCapture whole scope) capture_of all (λ k e below. is-capture (get_or all k e) (capture_delay-is (get_or all k e) (is.ordered.only (get_or all k e) (Contains-get_or all k e below))));
          complete = λ x such. contains-map capture_of all (delay_at x) (is.ordered.every (delay_at x) (has-capture x such));
        })

    -- ---- clock pins that no clock reaches
    unmarked : (v w : PinId) (o : Option ℕ) → pin_unless v o ≡ Some w → (v ≡ w) × (o ≡ None)
    unmarked v w None e = (some-same v w e, refl)
    unmarked v w (Some c) e = absurd (let wrong : None ≡ Some w = e in cc)

    is-unclocked : (e : LaunchEdge) (v : PinId) → Contains t.edges e → unclocked_pin reached e ≡ Some v → IsUnclocked whole scope v
    is-unclocked e v member gives =
        let free = unmarked e.pin v (mark_at reached e.pin.0) gives in
        subst (IsUnclocked whole scope) free.0 (record {
          within = pin-inside d design t e.pin.0 (edge-below e.pin e.edge member);
          edge = e.edge;
          clock_pin = member;
          unreached = λ c reaches. (let marked = are.all e.pin.0 c reaches in let wrong : None ≡ Some c = sym free.1 ∙ marked in absurd (cc));
        })

    no-mark : (v : PinId) (o : Option ℕ) → ((c : ℕ) → o ≡ Some c → ⊥) → pin_unless v o ≡ Some v
    no-mark v None none = refl
    no-mark v (Some c) none = absurd (none c refl)

    has-unclocked : (v : PinId) → IsUnclocked whole scope v → Contains (filter_map (unclocked_pin reached) t.edges) v
    has-unclocked v is = filter_map-has (unclocked_pin reached) t.edges (record { pin = v; edge = is.edge }) v is.clock_pin
        (no-mark v (mark_at reached v.0) (λ c marked. is.unreached c (are.only v.0 c marked)))

    pub unclocked-are : (pins : List PinId) → pins ≡ filter_map (unclocked_pin reached) t.edges → Lists (λ v w. nat_lt v.0 w.0) (IsUnclocked whole scope) pins
    unclocked-are pins is = subst (Lists (λ v w. nat_lt v.0 w.0) (IsUnclocked whole scope)) (sym is) (record {
      rising = filter_map-pairs (λ x y. edge_pin_before x y ≡ true) (λ v w. nat_lt v.0 w.0 ≡ true) (unclocked_pin reached)
          (λ x y v w before givesv givesw.
          (let freev = unmarked x.pin v (mark_at reached x.pin.0) givesv in let freew = unmarked y.pin w (mark_at reached y.pin.0) givesw in
          ap (λ (u : PinId). nat_lt u.0 w.0) (sym freev.0) ∙ (ap (λ (u : PinId). nat_lt x.pin.0 u.0) (sym freew.0) ∙ before)))
          t.edges timing.edge_order;
      sound = λ k e below.
          (let found = filter_map-from (unclocked_pin reached) t.edges (get_or (filter_map (unclocked_pin reached) t.edges) k e) (Contains-get_or (filter_map (unclocked_pin reached) t.edges) k e below) in
          is-unclocked found.from (get_or (filter_map (unclocked_pin reached) t.edges) k e) found.member found.gives);
      complete = λ v such. has-unclocked v such;
    })

    -- ---- what all constraints keep
    launch-clock-below : (l : Launch) → IsLaunch whole scope l → l.clock < length scope.clocks
    launch-clock-below l (inl port) = (input-as (delay_of l) port).clock
    launch-clock-below l (inr clock) = clock.reached.number

    launch-pin-below : (l : Launch) → IsLaunch whole scope l → l.pin.0 < length d.pins
    launch-pin-below l (inl port) = (input-as (delay_of l) port).pin.below
    launch-pin-below l (inr clock) = edge-below l.pin l.edge clock.edge

    launch-read : (l : Launch) → IsLaunch whole scope l → IsReadTime l.offset
    launch-read l (inl port) = (input-as (delay_of l) port).amount
    launch-read l (inr clock) = record { low = omega (arith, ints, clock.offset); high = omega (arith, ints, clock.offset) }

    capture-clock-below : (x : Capture) → IsCapture whole scope x → x.clock < length scope.clocks
    capture-clock-below x (inl port) = (output-as (delay_at x) port).clock
    capture-clock-below x (inr check) = check.reached.number

    capture-pin-below : (x : Capture) → IsCapture whole scope x → x.pin.0 < length d.pins
    capture-pin-below x (inl port) = (output-as (delay_at x) port).pin.below
    capture-pin-below x (inr check) = (check-sound (record { pin = x.pin; clock = check.clock_pin; edge = x.edge; amount = x.amount }) check.check).pin

    capture-read : (x : Capture) → IsCapture whole scope x → IsReadTime x.amount
    capture-read x (inl port) = (output-as (delay_at x) port).amount
    capture-read x (inr check) = (let c = check-sound (record { pin = x.pin; clock = check.clock_pin; edge = x.edge; amount = x.amount }) check.check in record { low = c.low; high = c.high })

    clocked : (l : Launch) → Contains t.edges (record { pin = l.pin; edge = l.edge }) → is_clocked t l.pin.0 ≡ true
    clocked l has = place-any (λ (e : LaunchEdge). e.pin.0 == l.pin.0) (record { pin = l.pin; edge = l.edge }) t.edges has.0 has.1 (eq-eqb _ l.pin.0 (ap (λ (e : LaunchEdge). e.pin.0) has.2))

    module _ (leaves : StandsInLeaves d t) where
      abbrev IsLeaf : ℕ → Type 0
      IsLeaf v = IsLeafPin d v

      pub kept-apart : (l : Launch) (x : Capture) → IsLaunch whole scope l → IsCapture whole scope x → l.pin.0 ≡ x.pin.0 → ⊥
      kept-apart l x (inl port) (inl out) same =
          input-differs_output d design t x.pin.0 (subst (λ v. is_input_bit whole v ≡ true) same (input-as (delay_of l) port).pin.may_be) (output-as (delay_at x) out).pin.may_be
      kept-apart l x (inl port) (inr check) same =
          leaf-no_top d design t x.pin.0 (All-contains (λ (c : Check). IsLeaf c.pin.0) t.checks (record { pin = x.pin; clock = check.clock_pin; edge = x.edge; amount = x.amount }) leaves.checks check.check)
          (input-top d design t x.pin.0 (subst (λ v. is_input_bit whole v ≡ true) same (input-as (delay_of l) port).pin.may_be))
      kept-apart l x (inr clock) (inl out) same =
          leaf-no_top d design t l.pin.0 (All-contains (λ (e : LaunchEdge). IsLeaf e.pin.0) t.edges (record { pin = l.pin; edge = l.edge }) leaves.edges clock.edge)
          (output-top d design t l.pin.0 (subst (λ v. is_output_bit whole v ≡ true) (sym same) (output-as (delay_at x) out).pin.may_be))
      kept-apart l x (inr clock) (inr check) same =
          true≢false (sym (clocked l clock.edge) ∙ (ap (is_clocked t) same ∙ (check-sound (record { pin = x.pin; clock = check.clock_pin; edge = x.edge; amount = x.amount }) check.check).at_data_pin))

      -- the constraints that a scope and the clocks at the pins give
      pub sound-constraints : (all : Constraints) → AllPairs Rise scope.exceptions → all.clocks ≡ scope.clocks → all.exceptions ≡ scope.exceptions
          → Lists launch_before (IsLaunch whole scope) all.launches → Lists capture_before (IsCapture whole scope) all.captures → AreSoundConstraints (length d.pins) all
      sound-constraints all rise clocks exceptions launches captures = record {
        clocks = subst (All IsSoundClock) (sym clocks) sound.clocks.waves;
        launch_clocks = subst (λ (ks : List Clock). All (λ (l : Launch). l.clock < length ks) all.launches) (sym clocks) (All-weaker (IsLaunch whole scope) (λ (l : Launch). l.clock < length scope.clocks) launch-clock-below all.launches launches.sound);
        launch_pins = All-weaker (IsLaunch whole scope) (λ (l : Launch). l.pin.0 < length d.pins) launch-pin-below all.launches launches.sound;
        offsets = All-weaker (IsLaunch whole scope) (λ (l : Launch). IsReadTime l.offset) launch-read all.launches launches.sound;
        capture_clocks = subst (λ (ks : List Clock). All (λ (x : Capture). x.clock < length ks) all.captures) (sym clocks) (All-weaker (IsCapture whole scope) (λ (x : Capture). x.clock < length scope.clocks) capture-clock-below all.captures captures.sound);
        capture_pins = All-weaker (IsCapture whole scope) (λ (x : Capture). x.pin.0 < length d.pins) capture-pin-below all.captures captures.sound;
        amounts = All-weaker (IsCapture whole scope) (λ (x : Capture). IsReadTime x.amount) capture-read all.captures captures.sound;
        apart = All-weaker (IsLaunch whole scope) (λ (l : Launch). All (λ (x : Capture). l.pin.0 ≡ x.pin.0 → ⊥) all.captures)
            (λ l isl. All-weaker (IsCapture whole scope) (λ (x : Capture). l.pin.0 ≡ x.pin.0 → ⊥) (λ x isx. kept-apart l x isl isx) all.captures captures.sound) all.launches launches.sound;
        one_launch = launches.rising;
        marks = subst (λ (es : List Exception). All (HasMarksBelow (length d.pins) (length all.clocks)) es) (sym exceptions)
            (subst (λ (ks : List Clock). All (HasMarksBelow (length d.pins) (length ks)) scope.exceptions) (sym clocks) sound.marks);
        kinds = subst (All (λ (e : Exception). IsSoundKind e.kind)) (sym exceptions) sound.kinds;
        numbers = subst (AllPairs Rise) (sym exceptions) rise;
      }
