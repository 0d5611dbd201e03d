-- Under a block's file a path is constrained exactly where it is a piece of a top path, with the piece's room.
use Rattle.std.specs.Prelude.{◌≡◌, ◌⊎◌, ℕ, ◌<◌, ℤ, ◌-ℤ◌, Bool, true, false, List, [], ◌∷◌, ◌++◌, map, filter_map, length, All, Contains, Option, Some, None}
use Rattle.std.specs.Option.{option_map}
use Rattle.std.proofs.Common.{true≢false, refl, sym, ◌∙◌, ap, subst, arith, inl, inr}
use Rattle.std.proofs.lemmas.Int.{ints}
use Rattle.std.proofs.lemmas.List.{length-append, map-append, get_or_default}
use Rattle.std.proofs.lemmas.List.Elements.{All-contains}
use Rattle.std.proofs.lemmas.Option.{none-some}
use Rattle.bud_base.specs.declared.ids.ArcId.{ArcId}
use Rattle.bud_base.specs.declared.ids.PinId.{PinId}
use Rattle.bud_design.specs.declared.clocks.Capture.{Capture}
use Rattle.bud_design.specs.declared.clocks.Clock.{Clock}
use Rattle.bud_design.specs.declared.clocks.Constraints.{Constraints}
use Rattle.bud_design.specs.declared.clocks.Launch.{Launch}
use Rattle.bud_design.specs.declared.layers.Class.{Class}
use Rattle.bud_design.specs.declared.policies.NumberedCommand.{NumberedCommand}
use Rattle.bud_design.specs.declared.policies.Policy.{Policy}
use Rattle.bud_design.specs.Arcs.{Arc, arc_at, Leads}
use Rattle.bud_design.specs.Clocks.{clock_at}
use Rattle.bud_design.specs.Designs.{Design, pin_at, is_inside}
use Rattle.bud_design.specs.Exceptions.{class_requirement, requirement}
use Rattle.bud_design.specs.Lists.{least}
use Rattle.bud_design.specs.Layers.{IsNode, walk_of, BeginsAt, EndsAt, class_behind, class_number}
use Rattle.bud_design.specs.Reaching.{pin_behind, Joined, along, IsReached, LeadsOn}
use Rattle.bud_design.specs.TimingPaths.{View, TimingPath, IsConstrained, path_start, launch_at, passed, last_pin, asked, least_asked}
use Rattle.bud_design.proofs.Leading.{Leads-last}
use Rattle.bud_design.proofs.Lineages.{is_inside-top}
use Rattle.bud_design.proofs.NodeLaws as nodes
use Rattle.bud_design.proofs.ReachingLaws.{Joined-append, Joined-front, along-append, IsReached-on, LeadsOn-before}
use Rattle.layer_theory.proofs.LayerPlaces as places
use Rattle.requirements.proofs.Members.{some-same, filter_map-from, filter_map-has}
use Rattle.timing_objects.specs.Objects.{is_checked}
use Rattle.block_theory.specs.BlockExceptions.{same_class, own_class}
use Rattle.block_theory.specs.BlockPorts.{Context, class_clock}
use Rattle.block_theory.specs.Blocks.{IsBlock, is_input_of, is_output_of, is_arc_in, through_inside}
use Rattle.block_theory.specs.BlockScopes.{block_clocks}
use Rattle.block_theory.specs.Pieces.{IsPiece, PieceBegins, PieceEnds, ArrivesAt, EndsOutside, BeginsOutside, IsPieceRoom, IsPieceOf, IsPathInClass, StandsForClass, ArePieces, top_view, block_view}
use Rattle.block_theory.proofs.Insides.{EndsInside-arc, CrossesPorts-arc}
use Rattle.block_laws.specs.LayeredDesigns.{IsLayeredDesign}
use Rattle.block_laws.specs.Meeting.{with_captures, AskAlike}
use Rattle.block_laws.specs.Standing.{LaunchStands, CaptureStands, PathsStand}
use Rattle.block_laws.proofs.Leasts.{IsAsked, IsAsked-from, asked-has, HasAsking, HasAsking-from, HasAsking-asks, IsLeastOf-cons, least-by_members}
use Rattle.block_laws.proofs.Readings.{PathsStand-given}
use Rattle.block_laws.proofs.Standing.{top-not_inside}
use Rattle.block_laws.proofs.Staying.{stays, last-inside, first-inside}
use Rattle.block_pieces.specs.BlockReadings.{Launches, HasLaunch, EndsAtPort, EndsAtCheck, IsBlockReading}
use Rattle.block_pieces.specs.Standing.{LaunchesClass, HasTable}
use Rattle.block_pieces.proofs.BlockRequirements.{own-class, other-class, data-pin, virtual-clock-at}
use Rattle.block_pieces.proofs.Matching.{input-below, input-port}
use Rattle.block_pieces.proofs.PortTable.{same_class-is}

-- the least of some numbers is one of them
least-is-member : (zs : List ℤ) (r : ℤ) → least zs ≡ Some r → Contains zs r
least-is-member [] r is = absurd (none-some r is)
least-is-member (z ∷ zs) r is =
    let one = IsLeastOf-cons z zs in
    subst (Contains (z ∷ zs)) (some-same one.0 r (sym one.1.is ∙ is)) one.1.member

-- what is asked at a pin is asked by a capture there
record AskedBy (xs : List Capture) (v : ℕ) (f : Capture → Option ℤ) (r : ℤ) : Type 0 where
  pub capture : Capture
  pub member : Contains xs capture
  pub asks : IsAsked v f capture r

AskedBy-from : (xs : List Capture) (v : ℕ) (f : Capture → Option ℤ) (r : ℤ) → least_asked xs v f ≡ Some r → AskedBy xs v f r
AskedBy-from xs v f r is =
    let found = filter_map-from (asked v f) xs r (least-is-member (filter_map (asked v f) xs) r is) in
    record { capture = found.from; member = found.member; asks = IsAsked-from v f found.from r found.gives }

some-mapped : (f : ℤ → ℤ) (o : Option ℤ) (b : ℤ) → option_map f o ≡ Some b → (a : ℤ) × ((o ≡ Some a) × (f a ≡ b))
some-mapped f None b e = absurd (none-some b e)
some-mapped f (Some a) b e = (a, (refl, some-same (f a) b e))

module _ (x : Context) (arcs : List Arc) (commands : List NumberedCommand) (policy : Policy) (given : IsLayeredDesign x.design x.timing arcs commands x.all policy x.layered)
    (block_is : IsBlock x.design x.block) (through : through_inside x.design (x.block ∷ []) x.all.exceptions ≡ None) (table : HasTable x)
    (captures : List Capture) (elsewhere : List ℕ) (alike : AskAlike x.design x.all captures elsewhere)
    (arrivals : List ℤ) (block : Constraints) (reading : IsBlockReading x arrivals (with_captures x.all captures) block) where
  abbrev d : Design
  d = x.design

  abbrev b : ℕ
  b = x.block

  abbrev top : Constraints
  top = with_captures x.all captures

  abbrev read : View
  read = top_view x arcs x.all

  abbrev held : View
  held = top_view x arcs (with_captures x.all captures)

  abbrev Reached : ℕ → Class → Type 0
  Reached u k = IsReached (walk_of read) (BeginsAt read (λ n. Unit {0})) u k

  abbrev Leads_on : ℕ → Class → Type 0
  Leads_on v k = LeadsOn (walk_of read) (EndsAt read) v k

  abbrev behind : Class → List ArcId → Class
  behind k xs = along (walk_of read) k (map (pin_behind (walk_of read)) xs)

  abbrev Asks : ℕ → Class → ℤ → Type 0
  Asks v k r = least_asked captures v (class_requirement x.all k) ≡ Some r

  stand : PathsStand x.design x.timing x.all
  stand = PathsStand-given x.design x.timing arcs commands x.all policy x.layered given

  inside-top : (i : ℕ) → i < length arcs → is_inside x.design.places 0 (arc_at arcs i).home ≡ true
  inside-top i below = is_inside-top x.design.places given.design.parents (arc_at arcs i).home (given.homes i below).home

  reached-held : (u : ℕ) (k : Class) → Reached u k → IsReached (walk_of held) (BeginsAt held (λ n. Unit {0})) u k
  reached-held u k reached = record {
    pin = reached.pin;
    first = reached.first;
    begins = record { launch = reached.begins.launch; number = reached.begins.number; from = tt; pin_is = reached.begins.pin_is; class_is = reached.begins.class_is };
    front = reached.front;
    joined = reached.joined;
    class_is = reached.class_is;
  }

  -- a class that comes to a pin of the block from outside, or begins there
  record ComesTo (u : ℕ) (k : Class) : Type 0 where
    pub launch : ℕ
    pub below : launch < length x.all.launches
    pub front : List ArcId
    pub joined : Joined (walk_of read) (launch_at x.all.launches launch).pin.0 front u
    pub class_is : k ≡ class_behind read (record { launch = launch; arcs = front }) front
    pub outside : EndsOutside x.design arcs x.block front

  never-enters : (pin u : ℕ) (front : List ArcId) → Joined (walk_of read) pin front u → is_input_of x.design x.block u ≡ true → EndsOutside x.design arcs x.block front
  never-enters pin u front joined input first y e = by_test (is_arc_in x.design arcs x.block y) refl
    where
      last : (v : ℕ) × (Joined (walk_of read) pin first v × Joined (walk_of read) v (y ∷ []) u)
      last = Joined-front (walk_of read) first (y ∷ []) pin u (subst (λ ys. Joined (walk_of read) pin ys u) e joined)

      by_test : (t : Bool) → is_arc_in x.design arcs x.block y ≡ t → t ≡ false
      by_test false outer = refl
      by_test true inner =
          let ends = EndsInside-arc x.design given.design x.block block_is (arc_at arcs y.0) (given.homes y.0 last.1.1.0.0) inner in
          absurd (true≢false (sym (subst (λ v. is_input_of x.design x.block v ≡ true) (sym last.1.1.2) input) ∙ ends.enters))

  node-comes : (u : ℕ) (k : Class) → IsNode read u k → is_input_of x.design x.block u ≡ true → ComesTo u k
  node-comes u k node input =
      let split = nodes.IsSplit-from_node read given.sound.numbers (λ n. Unit {0}) u k node tt in
      let reached = split.reached in
      let joined = nodes.joined-reached read given.sound.numbers (λ n. Unit {0}) u k reached in
      record {
        launch = reached.begins.launch;
        below = reached.begins.number;
        front = reached.front;
        joined = joined;
        class_is = nodes.class-reached read given.sound.numbers (λ n. Unit {0}) u k reached reached.front;
        outside = never-enters (launch_at x.all.launches reached.begins.launch).pin.0 u reached.front joined input;
      }

  nothing-ends : (first : List ArcId) (y : ArcId) → [] ≡ first ++ y ∷ [] → is_arc_in x.design arcs x.block y ≡ false
  nothing-ends first y e = absurd (omega (arith, ap (λ (ys : List ArcId). length ys) e, length-append first (y ∷ [])))

  launch-comes : (l : Launch) (k : Class) → Launches x arrivals l k → ComesTo l.pin.0 k
  launch-comes l k is = by_begin is.begins is.stands
    where
      by_begin : PieceBegins x arrivals l.pin.0 k l.offset → LaunchesClass x l k → ComesTo l.pin.0 k
      by_begin (inl bit) stands = node-comes l.pin.0 k (places.StandsAt-node read policy x.layered given.layering bit.1.node l.pin.0 k bit.1.stands) bit.0
      by_begin (inr clock) (inl port) = absurd (true≢false (sym clock.0 ∙ table.input_unclocked l.pin.0 port.launch.input))
      by_begin (inr clock) (inr own) =
          let has = own.launch.launch in
          let same : launch_at x.all.launches has.0 ≡ own.whole = get_or_default x.all.launches has.0 (launch_at [] 0) own.whole has.1 ∙ has.2 in
          record {
            launch = has.0;
            below = has.1;
            front = [];
            joined = ap (λ (m : Launch). m.pin.0) same ∙ ap (λ (p : PinId). p.0) own.launch.pin;
            class_is = own.class_is ∙ ap (λ (m : Launch). own_class x.all m) (sym same);
            outside = nothing-ends;
          }

  -- the piece that arcs inside the block make, behind what comes to it and before what goes on
  piece-of : (u : ℕ) (k : Class) → ComesTo u k → (cs rest : List ArcId) → 0 < length cs → All (λ a. is_arc_in x.design arcs x.block a ≡ true) cs → BeginsOutside x.design arcs x.block rest
      → (z : ℕ) → Joined (walk_of read) u (cs ++ rest) z → (r : ℤ) → Asks z (behind k (cs ++ rest)) r → IsPiece held x.block u k cs
  piece-of u k comes cs rest some inner out z joined r asks =
      let n = comes.launch in
      let path : TimingPath = record { launch = n; arcs = comes.front ++ (cs ++ rest) } in
      let pin = (launch_at x.all.launches n).pin.0 in
      let whole = Joined-append (walk_of held) comes.front (cs ++ rest) pin u z comes.joined joined in
      let class_end : behind k (cs ++ rest) ≡ class_behind held path path.arcs
      = ap (λ j. behind j (cs ++ rest)) comes.class_is ∙ nodes.class_behind-along held given.sound.numbers path comes.front (cs ++ rest) in
      let constrained = nodes.constrained-from held given.sound.numbers n path.arcs z comes.below
      (omega (arith, some, length-append comes.front (cs ++ rest), length-append cs rest)) whole (r, subst (λ j. Asks z j r) class_end asks) in
      record {
        path = path;
        room = r -ℤ (launch_at x.all.launches n).offset;
        constrained = constrained;
        front = comes.front;
        rest = rest;
        parts = refl;
        some = some;
        within = inner;
        before = comes.outside;
        behind = out;
        pin_is = sym (Leads-last arcs comes.front pin u (nodes.Leads-from_joined held given.sound.numbers comes.front pin u comes.joined));
        class_is = comes.class_is;
      }

  -- ---- where a path of the block ends
  -- what its captures ask at a data pin is what those of the whole design ask of the class
  data-same : (l : Launch) (vs : List ℕ) (k : Class) → LaunchesClass x l k → (w : ℕ) → is_checked x.timing w ≡ true → is_inside x.design.places x.block (pin_at x.design.pins w).place ≡ true
      → least_asked block.captures w (requirement block l vs) ≡ least_asked captures w (class_requirement x.all k)
  data-same l vs k stands w checked inner =
      least-by_members (filter_map (asked w (requirement block l vs)) block.captures) (filter_map (asked w (class_requirement x.all k)) captures)
      (λ r has. (let found = filter_map-from (asked w (requirement block l vs)) block.captures r has in
      there r found.from (IsAsked-from w (requirement block l vs) found.from r found.gives) (reading.captures found.from found.member)))
      (λ r has. (let found = filter_map-from (asked w (class_requirement x.all k)) captures r has in
      back r found.from found.member (IsAsked-from w (class_requirement x.all k) found.from r found.gives)))
    where
      there : (r : ℤ) (y : Capture) → IsAsked w (requirement block l vs) y r → EndsAtPort x arrivals y ⊎ EndsAtCheck x top y → Contains (filter_map (asked w (class_requirement x.all k)) captures) r
      there r y asks (inl port) =
          absurd (true≢false (sym (subst (λ v. is_checked x.timing v ≡ true) (sym asks.pin) checked) ∙ table.output_unchecked y.pin.0 port.capture.output))
      there r y asks (inr check) =
          let z = check.whole in
          let same = data-pin x block reading.parts table l vs k y z stands check.capture in
          filter_map-has (asked w (class_requirement x.all k)) captures z r check.is_capture
          (asked-has w (class_requirement x.all k) z r
          (record { pin = ap (λ (p : PinId). p.0) check.capture.pin ∙ asks.pin; required = asks.required; requires = sym same ∙ asks.requires; is = omega (arith, ints, asks.is, check.amount) }))

      back : (r : ℤ) (z : Capture) → Contains captures z → IsAsked w (class_requirement x.all k) z r → Contains (filter_map (asked w (requirement block l vs)) block.captures) r
      back r z member asks =
          let found = reading.check_capture z member (subst (λ v. is_inside x.design.places x.block (pin_at x.design.pins v).place ≡ true) (sym asks.pin) inner) in
          let y = found.0 in
          let same = data-pin x block reading.parts table l vs k y z stands found.1.1 in
          filter_map-has (asked w (requirement block l vs)) block.captures y r found.1.0
          (asked-has w (requirement block l vs) y r
          (record { pin = sym (ap (λ (p : PinId). p.0) found.1.1.pin) ∙ asks.pin; required = asks.required; requires = same ∙ asks.requires; is = omega (arith, ints, asks.is, found.1.2) }))

  -- arcs that go on from a pin of the block to where something is asked, if any
  record GoesOn (w : ℕ) (k : Class) : Type 0 where
    pub rest : List ArcId
    pub out : BeginsOutside x.design arcs x.block rest
    pub last : ℕ
    pub joined : Joined (walk_of read) w rest last
    pub asks : ℤ
    pub asked : Asks last (behind k rest) asks

  record EndsHere (w : ℕ) (k : Class) (r : ℤ) : Type 0 where
    pub ends : PieceEnds x arrivals top w k r
    pub goes : GoesOn w k

  -- at an output bit the arcs that go on are outside
  leaves-port : (w : ℕ) (rest : List ArcId) (z : ℕ) → Joined (walk_of read) w rest z → is_output_of x.design x.block w ≡ true → BeginsOutside x.design arcs x.block rest
  leaves-port w rest z joined output a others e = by_test (is_arc_in x.design arcs x.block a) refl
    where
      here : Joined (walk_of read) w (a ∷ others) z
      here = subst (λ ys. Joined (walk_of read) w ys z) e joined

      by_test : (t : Bool) → is_arc_in x.design arcs x.block a ≡ t → t ≡ false
      by_test false outer = refl
      by_test true inner =
          let ends = EndsInside-arc x.design given.design x.block block_is (arc_at arcs a.0) (given.homes a.0 here.0.0) inner in
          absurd (true≢false (sym (subst (λ v. is_output_of x.design x.block v ≡ true) (sym here.1) output) ∙ ends.leaves))

  node-goes : (w : ℕ) (k : Class) → IsNode read w k → is_output_of x.design x.block w ≡ true → GoesOn w k
  node-goes w k node output =
      let leads = (nodes.IsSplit-from_node read given.sound.numbers (λ n. Unit {0}) w k node tt).leads in
      let asks = alike.from_read leads.pin (behind k leads.rest) leads.ends.0 leads.ends.1 in
      record { rest = leads.rest; out = leaves-port w leads.rest leads.pin leads.joined output; last = leads.pin; joined = leads.joined; asks = asks.0; asked = asks.1 }

  nothing-begins : (a : ArcId) (others : List ArcId) → [] ≡ a ∷ others → is_arc_in x.design arcs x.block a ≡ false
  nothing-begins a others e = absurd (omega (arith, ap (λ (ys : List ArcId). length ys) e))

  ends-of : (l : Launch) (vs : List ℕ) (k : Class) → LaunchesClass x l k → (w : ℕ) → is_inside x.design.places x.block (pin_at x.design.pins w).place ≡ true
      → (r : ℤ) → least_asked block.captures w (requirement block l vs) ≡ Some r → EndsHere w k r
  ends-of l vs k stands w inner r is =
      (let by = AskedBy-from block.captures w (requirement block l vs) r is in by_kind by.capture by.asks (reading.captures by.capture by.member))
    where
      by_kind : (y : Capture) → IsAsked w (requirement block l vs) y r → EndsAtPort x arrivals y ⊎ EndsAtCheck x top y → EndsHere w k r
      by_kind y asks (inl port) = by_class (same_class (class_number x.layered.classes port.number) k) refl
        where
          by_class : (t : Bool) → same_class (class_number x.layered.classes port.number) k ≡ t → EndsHere w k r
          by_class false other = absurd (none-some asks.required (sym (other-class x block reading.parts table l vs k y port.number stands port.capture other) ∙ asks.requires))
          by_class true same =
              let is_class = same_class-is (class_number x.layered.classes port.number) k same in
              let period = some-same (class_clock x.all x.layered port.number).period asks.required
              (sym (own-class x block reading.parts table l vs k y port.number stands port.capture is_class) ∙ asks.requires) in
              let time : r ≡ port.arrival = omega (arith, ints, asks.is, port.amount, period) in
              let output = subst (λ v. is_output_of x.design x.block v ≡ true) asks.pin port.capture.output in
              let arrives = subst (λ v. ArrivesAt x.layered arrivals v k r) asks.pin
              (subst (λ j. ArrivesAt x.layered arrivals y.pin.0 j r) is_class (subst (λ t. ArrivesAt x.layered arrivals y.pin.0 (class_number x.layered.classes port.number) t) (sym time) port.arrives)) in
              record { ends = inl (output, arrives); goes = node-goes w k (places.StandsAt-node read policy x.layered given.layering arrives.node w k arrives.stands) output }
      by_kind y asks (inr check) =
          let checked = subst (λ v. is_checked x.timing v ≡ true) asks.pin check.capture.checked in
          let same = sym (data-same l vs k stands w checked inner) ∙ is in
          record { ends = inr (checked, same); goes = record { rest = []; out = nothing-begins; last = w; joined = refl; asks = r; asked = same } }

  last-in : (cs : List ArcId) (u w : ℕ) → 0 < length cs → Joined (walk_of read) u cs w → All (λ a. is_arc_in x.design arcs x.block a ≡ true) cs → is_inside x.design.places x.block (pin_at x.design.pins w).place ≡ true
  last-in [] u w some joined inner = absurd (omega (arith, some))
  last-in (a ∷ as') u w some joined inner = last-inside x.design arcs x.all given.design given.homes x.block block_is a as' u w joined inner

  first-in : (cs : List ArcId) (u w : ℕ) → 0 < length cs → Joined (walk_of read) u cs w → All (λ a. is_arc_in x.design arcs x.block a ≡ true) cs → is_inside x.design.places x.block (pin_at x.design.pins u).place ≡ true
  first-in [] u w some joined inner = absurd (omega (arith, some))
  first-in (a ∷ as') u w some joined inner = first-inside x.design arcs x.all given.design given.homes x.block block_is a as' u w joined (inner 0 a (omega arith))

  -- a launch stands for its class by the name of its clock, or by its pin
  stands-for : (l : Launch) (k : Class) → LaunchesClass x l k → StandsForClass x block l k
  stands-for l k (inl port) = inl (record {
    number = port.number;
    below = input-below x port.number port.launch.«class»;
    class_is = port.class_is;
    clock = ap (λ (c : Clock). c.name) (ap (λ (cs : List Clock). clock_at cs l.clock) reading.parts.clocks
        ∙ (ap (clock_at (block_clocks x)) port.launch.clock ∙ virtual-clock-at x port.number (input-port x port.number port.launch.«class»)));
  })
  stands-for l k (inr own) = inr (record { clocked = own.launch.clocked; launch = own.whole; is_launch = own.launch.launch; pin_is = own.launch.pin; class_is = own.class_is })

  pub sound : (path : TimingPath) (room : ℤ) → IsConstrained (block_view x arcs block) path room
      → (k : Class) × (IsPathInClass x arcs block k path room × IsPieceOf x arcs arrivals top (path_start (block_view x arcs block) path).pin.0 k path.arcs room)
  sound path room constrained =
      let l = launch_at block.launches path.launch in
      let u = l.pin.0 in
      let cs = path.arcs in
      let w = last_pin arcs u cs in
      let some = constrained.is_path.some in
      let inner = constrained.is_path.within in
      let begun = reading.launches path.launch constrained.is_path.launch in
      let k = begun.0 in
      let joined = nodes.Joined-from_inside read given.sound.numbers inside-top cs u w constrained.is_path.joined in
      let asked = some-mapped (λ r. r -ℤ l.offset) (least_asked block.captures w (requirement block l (passed arcs u cs))) room constrained.has_room in
      let here = ends-of l (passed arcs u cs) k begun.1.stands w (last-in cs u w some joined inner) asked.0 asked.1.0 in
      let goes = here.goes in
      let class_same : behind k (cs ++ goes.rest) ≡ behind k goes.rest
      = ap (along (walk_of read) k) (map-append (pin_behind (walk_of read)) cs goes.rest)
      ∙ (along-append (walk_of read) k (map (pin_behind (walk_of read)) cs) (map (pin_behind (walk_of read)) goes.rest)
      ∙ ap (λ j. behind j goes.rest) (stays x.design arcs x.all given.design given.homes x.block block_is through cs u w k joined inner)) in
      let piece = piece-of u k (launch-comes l k begun.1) cs goes.rest some inner goes.out goes.last (Joined-append (walk_of read) cs goes.rest u w goes.last joined goes.joined) goes.asks
      (subst (λ j. Asks goes.last j goes.asks) (sym class_same) goes.asked) in (
        k,
        (
          record { constrained = constrained; stands = stands-for l k begun.1.stands },
          record { piece = piece; has_room = record { start = l.offset; begins = begun.1.begins; end = asked.0; ends = here.ends; room_is = sym asked.1.1 } },
        ),
      )

  -- ---- and each piece is such a path
  -- a piece joins what comes to its first pin to what goes on from its last
  record Spans (u : ℕ) (k : Class) (cs rest : List ArcId) : Type 0 where
    pub reached : Reached u k
    pub last : ℕ
    pub joined : Joined (walk_of read) u cs last
    pub end : ℕ
    pub behind_joined : Joined (walk_of read) last rest end
    pub asks : ℤ
    pub asked : Asks end (behind (behind k cs) rest) asks

  spans : (u : ℕ) (k : Class) (cs : List ArcId) (piece : IsPiece held x.block u k cs) → Spans u k cs piece.rest
  spans u k cs piece =
      let path = piece.path in
      let pin = (launch_at x.all.launches path.launch).pin.0 in
      let end = last_pin arcs pin path.arcs in
      let whole = subst (λ xs. Joined (walk_of read) pin xs end) piece.parts (nodes.Joined-from_constrained held given.sound.numbers path piece.room piece.constrained) in
      let ends = subst (λ xs. EndsAt held end (class_behind held path xs)) piece.parts (nodes.EndsAt-from_constrained held given.sound.numbers path piece.room piece.constrained) in
      let first = Joined-front (walk_of read) piece.front (cs ++ piece.rest) pin end whole in
      let middle : first.0 ≡ u = sym (Leads-last arcs piece.front pin first.0 (nodes.Leads-from_joined held given.sound.numbers piece.front pin first.0 first.1.0)) ∙ sym piece.pin_is in
      let second = Joined-front (walk_of read) cs piece.rest u end (subst (λ v. Joined (walk_of read) v (cs ++ piece.rest) end) middle first.1.1) in
      let class_end : behind (behind k cs) piece.rest ≡ class_behind held path (piece.front ++ (cs ++ piece.rest))
      = sym (along-append (walk_of read) k (map (pin_behind (walk_of read)) cs) (map (pin_behind (walk_of read)) piece.rest))
      ∙ (ap (along (walk_of read) k) (sym (map-append (pin_behind (walk_of read)) cs piece.rest))
      ∙ (ap (λ j. behind j (cs ++ piece.rest)) piece.class_is ∙ nodes.class_behind-along held given.sound.numbers path piece.front (cs ++ piece.rest))) in
      record {
        reached = subst (Reached u) (sym piece.class_is)
            (nodes.reached-front read given.sound.numbers (λ n. Unit {0}) path piece.constrained.is_path.launch tt piece.front u (subst (Joined (walk_of read) pin piece.front) middle first.1.0));
        last = second.0;
        joined = second.1.0;
        end = end;
        behind_joined = second.1.1;
        asks = ends.0;
        asked = subst (λ j. Asks end j ends.0) (sym class_end) ends.1;
      }

  leads-of : (v : ℕ) (k : Class) (xs : List ArcId) (z : ℕ) → Joined (walk_of read) v xs z → (r : ℤ) → Asks z (behind k xs) r → Leads_on v k
  leads-of v k xs z joined r asks = record { rest = xs; pin = z; joined = joined; ends = alike.to_read z (behind k xs) r asks }

  node-of : (v : ℕ) (k : Class) → Reached v k → Leads_on v k → IsNode read v k
  node-of v k reached leads = (nodes.IsNode-from_split read given.sound.numbers given.sound.apart (λ n. Unit {0}) v k (record { reached = reached; leads = leads })).0

  snoc-of : (y : ArcId) (ys : List ArcId) → (first : List ArcId) × ((z : ArcId) × (y ∷ ys ≡ first ++ z ∷ []))
  snoc-of y [] = ([], (y, refl))
  snoc-of y (a ∷ as') = (let rest = snoc-of a as' in (y ∷ rest.0, (rest.1.0, ap (λ zs. y ∷ zs) rest.1.1)))

  -- the launch of a piece
  piece-launch : (u : ℕ) (k : Class) (cs : List ArcId) (piece : IsPiece held x.block u k cs) → is_inside x.design.places x.block (pin_at x.design.pins u).place ≡ true → IsNode read u k → HasLaunch x arrivals block u k
  piece-launch u k cs piece inner node = by_front piece.front refl
    where
      move : (v : ℕ) (j : Class) → u ≡ v → k ≡ j → HasLaunch x arrivals block v j → HasLaunch x arrivals block u k
      move v j pin class_is has = subst (λ w. HasLaunch x arrivals block w k) (sym pin) (subst (λ c. HasLaunch x arrivals block v c) (sym class_is) has)

      by_stand : u ≡ (launch_at x.all.launches piece.path.launch).pin.0 → k ≡ own_class x.all (launch_at x.all.launches piece.path.launch) → LaunchStands x.design x.timing (launch_at x.all.launches piece.path.launch)
          → HasLaunch x arrivals block u k
      by_stand pin class_is (inl top_pin) = absurd (top-not_inside x.design given.design x.block block_is u (subst (λ v. (pin_at x.design.pins v).place ≡ 0) (sym pin) top_pin) inner)
      by_stand pin class_is (inr clock) =
          move (launch_at x.all.launches piece.path.launch).pin.0 (own_class x.all (launch_at x.all.launches piece.path.launch)) pin class_is
          (reading.clock_launch piece.path.launch piece.constrained.is_path.launch (subst (λ v. is_inside x.design.places x.block (pin_at x.design.pins v).place ≡ true) pin inner))

      by_front : (front : List ArcId) → piece.front ≡ front → HasLaunch x arrivals block u k
      by_front [] e =
          by_stand (piece.pin_is ∙ ap (last_pin arcs (launch_at x.all.launches piece.path.launch).pin.0) e) (piece.class_is ∙ ap (class_behind held piece.path) e)
          (stand.launches piece.path.launch (launch_at [] 0) piece.constrained.is_path.launch)
      by_front (y ∷ ys) e =
          let last = snoc-of y ys in
          let is : piece.front ≡ last.0 ++ last.1.0 ∷ [] = e ∙ last.1.1 in
          let pin = (launch_at x.all.launches piece.path.launch).pin.0 in
          let end = last_pin arcs pin piece.path.arcs in
          let whole = subst (λ xs. Joined (walk_of read) pin xs end) piece.parts (nodes.Joined-from_constrained held given.sound.numbers piece.path piece.room piece.constrained) in
          let first = Joined-front (walk_of read) piece.front (cs ++ piece.rest) pin end whole in
          let middle : first.0 ≡ u = sym (Leads-last arcs piece.front pin first.0 (nodes.Leads-from_joined held given.sound.numbers piece.front pin first.0 first.1.0)) ∙ sym piece.pin_is in
          let into = Joined-front (walk_of read) last.0 (last.1.0 ∷ []) pin u (subst (λ xs. Joined (walk_of read) pin xs u) is (subst (Joined (walk_of read) pin piece.front) middle first.1.0)) in
          let outer = piece.before last.0 last.1.0 is in
          let enters = (CrossesPorts-arc x.design given.design x.block block_is (arc_at arcs last.1.0.0) (given.homes last.1.0.0 into.1.1.0.0) outer).enters
          (subst (λ v. is_inside x.design.places x.block (pin_at x.design.pins v).place ≡ true) (sym into.1.1.2) inner) in
          let input = subst (λ v. is_input_of x.design x.block v ≡ true) into.1.1.2 enters in
          let placed = places.node-placed read policy x.layered given.layering u k node in
          reading.port_launch placed.0 u k placed.1 input

  -- what is asked where it ends
  piece-asks : (l : Launch) (vs : List ℕ) (k : Class) → LaunchesClass x l k → (w : ℕ) → is_inside x.design.places x.block (pin_at x.design.pins w).place ≡ true → Reached w k → (rest : List ArcId) (z : ℕ)
      → BeginsOutside x.design arcs x.block rest → Joined (walk_of read) w rest z → (r : ℤ) → Asks z (behind k rest) r → (s : ℤ) × (least_asked block.captures w (requirement block l vs) ≡ Some s)
  piece-asks l vs k stands w inner reached [] z out joined r asks =
      by_stand has.capture has.asked.pin (All-contains (CaptureStands x.design x.timing) x.all.captures has.capture stand.captures has.member)
    where
      here : Asks w k r
      here = subst (λ v. Asks v k r) (sym joined) asks

      has : HasAsking x.all.captures w (class_requirement x.all k)
      has = (let read_too = alike.to_read w k r here in HasAsking-from x.all.captures w (class_requirement x.all k) read_too.0 read_too.1)

      by_stand : (c : Capture) → c.pin.0 ≡ w → CaptureStands x.design x.timing c → (s : ℤ) × (least_asked block.captures w (requirement block l vs) ≡ Some s)
      by_stand c pin (inl top_pin) = absurd (top-not_inside x.design given.design x.block block_is w (subst (λ v. (pin_at x.design.pins v).place ≡ 0) pin top_pin) inner)
      by_stand c pin (inr checked) = (r, data-same l vs k stands w (subst (λ v. is_checked x.timing v ≡ true) pin checked) inner ∙ here)
  piece-asks l vs k stands w inner reached (y ∷ ys) z out joined r asks =
      let outer = out y ys refl in
      let leaves = (CrossesPorts-arc x.design given.design x.block block_is (arc_at arcs y.0) (given.homes y.0 joined.0.0) outer).leaves
      (subst (λ v. is_inside x.design.places x.block (pin_at x.design.pins v).place ≡ true) (sym joined.1) inner) in
      let output = subst (λ v. is_output_of x.design x.block v ≡ true) joined.1 leaves in
      let placed = places.node-placed read policy x.layered given.layering w k (node-of w k reached (leads-of w k (y ∷ ys) z joined r asks)) in
      let found = reading.port_capture placed.0 w k placed.1 output in
      let c = found.0 in
      let j = found.1.2.0 in
      let period = own-class x block reading.parts table l vs k c j stands found.1.2.1.0 found.1.2.1.1 in
      HasAsking-asks block.captures w (requirement block l vs)
      (record { capture = c; member = found.1.0; asks = (class_clock x.all x.layered j).period -ℤ c.amount; asked = record { pin = found.1.1; required = (class_clock x.all x.layered j).period; requires = period; is = refl } })

  pub complete : (u : ℕ) (k : Class) (cs : List ArcId) → IsPiece held x.block u k cs
      → (path : TimingPath) × ((room : ℤ) × (IsPathInClass x arcs block k path room × IsPieceRoom x arrivals top u (last_pin arcs u cs) k room × (path.arcs ≡ cs)))
  complete u k cs piece =
      let span = spans u k cs piece in
      let w = span.last in
      let inner_u = first-in cs u w piece.some span.joined piece.within in
      let inner_w = last-in cs u w piece.some span.joined piece.within in
      let same = stays x.design arcs x.all given.design given.homes x.block block_is through cs u w k span.joined piece.within in
      let asked = subst (λ j. Asks span.end (behind j piece.rest) span.asks) same span.asked in
      let reached_w = subst (Reached w) same (IsReached-on (walk_of read) (BeginsAt read (λ n. Unit {0})) u k cs w span.reached span.joined) in
      let leads_w = leads-of w k piece.rest span.end span.behind_joined span.asks asked in
      let leads_u = LeadsOn-before (walk_of read) (EndsAt read) u k cs w span.joined (subst (Leads_on w) (sym same) leads_w) in
      let has = piece-launch u k cs piece inner_u (node-of u k span.reached leads_u) in
      let l = launch_at block.launches has.number in
      let v = l.pin.0 in
      let joined = subst (λ n. Joined (walk_of read) n cs w) (sym has.pin) span.joined in
      let leads = nodes.Leads-from_joined read given.sound.numbers cs v w joined in
      let last = Leads-last arcs cs v w leads in
      let vs = passed arcs v cs in
      let asks = piece-asks l vs k has.launches.stands w inner_w reached_w piece.rest span.end piece.behind span.behind_joined span.asks asked in
      let here = ends-of l vs k has.launches.stands w inner_w asks.0 asks.1 in
      let there : last_pin arcs u cs ≡ w = Leads-last arcs cs u w (nodes.Leads-from_joined read given.sound.numbers cs u w span.joined) in (
        record { launch = has.number; arcs = cs },
        (
          asks.0 -ℤ l.offset,
          (
            record {
              constrained = record {
                is_path = record { launch = has.below; some = piece.some; within = piece.within; joined = subst (Leads arcs v cs) (sym last) leads };
                has_room = ap (option_map (λ r. r -ℤ l.offset)) (ap (λ n. least_asked block.captures n (requirement block l vs)) last ∙ asks.1);
              };
              stands = stands-for l k has.launches.stands;
            },
            record {
              start = l.offset;
              begins = subst (λ n. PieceBegins x arrivals n k l.offset) has.pin has.launches.begins;
              end = asks.0;
              ends = subst (λ n. PieceEnds x arrivals top n k asks.0) (sym there) here.ends;
              room_is = refl;
            },
            refl,
          ),
        ),
      )

  pub ArePieces-reading : ArePieces x arcs arrivals (with_captures x.all captures) block
  ArePieces-reading = record { sound = sound; complete = complete }
