-- Where the pieces in every block meet their rooms and glue arcs keep their budgets, every constrained path of the whole design meets its room.
use Rattle.std.specs.Prelude.{◌≡◌, ◌⊎◌, ℕ, zero, suc, ◌<◌, ◌≤◌, ℤ, pos, ◌+ℤ◌, ◌-ℤ◌, ◌≤ℤ◌, Bool, true, false, List, [], ◌∷◌, ◌++◌, map, length, All, Option, Some, None, unwrap_or}
use Rattle.std.proofs.Common.{true≢false, refl, sym, ◌∙◌, ap, subst, arith, inl, inr}
use Rattle.std.proofs.lemmas.Int.{ints}
use Rattle.std.proofs.lemmas.List.{map-append, append-nil, length-append}
use Rattle.std.proofs.lemmas.List.Elements.{All-cons}
use Rattle.bud_base.specs.declared.ids.ArcId.{ArcId}
use Rattle.bud_base.specs.declared.ids.ItemId.{ItemId}
use Rattle.bud_design.specs.declared.clocks.Capture.{Capture}
use Rattle.bud_design.specs.declared.clocks.Constraints.{Constraints}
use Rattle.bud_design.specs.declared.layers.Class.{Class}
use Rattle.bud_design.specs.declared.layers.Layered.{Layered}
use Rattle.bud_design.specs.declared.policies.Policy.{Policy}
use Rattle.bud_design.specs.declared.timings.Timing.{Timing}
use Rattle.bud_design.specs.Arcs.{Arc, arc_at}
use Rattle.bud_design.specs.ConstraintRules.{AreSoundConstraints}
use Rattle.bud_design.specs.Correspondences.{arc_of_item}
use Rattle.bud_design.specs.Designs.{Design, pin_at, is_inside}
use Rattle.bud_design.specs.DesignRules.{IsDesign}
use Rattle.bud_design.specs.Exceptions.{class_requirement, class_at, class_of}
use Rattle.bud_design.specs.Layers.{IsNode, IsLayering, walk_of, BeginsAt, EndsAt, class_behind}
use Rattle.bud_design.specs.Reaching.{pin_behind, Joined, along, IsReached, LeadsOn}
use Rattle.bud_design.specs.TimingPaths.{View, TimingPath, IsConstrained, launch_at, last_pin, least_asked, sum_over}
use Rattle.bud_design.proofs.Leading.{Leads-last}
use Rattle.bud_design.proofs.NodeLaws as nodes
use Rattle.bud_design.proofs.ReachingLaws.{Joined-append, Joined-front, along-append, IsReached-arc, IsReached-on}
use Rattle.bud_flow.specs.Sums.{number_at}
use Rattle.bud_plans.specs.Budgets.{SuitBudgets}
use Rattle.layer_theory.proofs.LayerPlaces as places
use Rattle.block_theory.specs.BlockPorts.{Context}
use Rattle.block_theory.specs.Blocks.{IsBlock, AreBlocks, is_input_of, is_output_of, is_arc_in, IsGlue, through_inside}
use Rattle.block_theory.specs.Pieces.{IsPiece, PieceBegins, PieceEnds, ArrivesAt, EndsOutside, BeginsOutside}
use Rattle.block_theory.proofs.Fronts.{IsFront-of}
use Rattle.block_theory.proofs.Insides.{EndsInside-arc, CrossesPorts-arc}
use Rattle.block_laws.specs.Meeting.{with_captures, AskAlike, PiecesMeet}
use Rattle.block_laws.specs.Standing.{HaveHomes, IsLeafPin, LaunchStands, PathsStand}
use Rattle.block_laws.proofs.Arriving as arriving
use Rattle.block_laws.proofs.Staying.{stays, last-inside}
use Rattle.block_laws.proofs.Standing.{member-or_none, IsBoundary, block_at, output-boundary, asked-no_port, asked-outside, leaf-no_port, top-outside}

pub sum_over-append : (delay : ArcId → ℤ) (xs ys : List ArcId) → sum_over delay (xs ++ ys) ≡ sum_over delay xs +ℤ sum_over delay ys
sum_over-append delay [] ys = omega (arith, ints)
sum_over-append delay (x ∷ xs) ys = omega (arith, ints, sum_over-append delay xs ys)

same-some : (r s : ℤ) → Some r ≡ Some s → r ≡ s
same-some r s e = ap (λ o. unwrap_or o r) e

module _ (d : Design) (t : Timing) (arcs : List Arc) (all : Constraints) (layered : Layered) (arrivals : List ℤ) (captures : List Capture) (blocks : List ℕ) (pins : ℕ)
    (design : IsDesign d) (homes : HaveHomes d arcs) (kept : AreSoundConstraints pins all) (stand : PathsStand d t all) (are : AreBlocks d blocks)
    (alike : AskAlike d all captures blocks) where
  -- the whole design with the amounts as read, and with those in hand
  abbrev pub read : View
  read = record { design = d; root = 0; arcs = arcs; all = all }

  abbrev pub held : View
  held = record { design = d; root = 0; arcs = arcs; all = with_captures all captures }

  abbrev pub Reached : ℕ → Class → Type 0
  Reached u k = IsReached (walk_of read) (BeginsAt read (λ n. Unit {0})) u k

  abbrev pub behind : Class → List ArcId → Class
  behind k xs = along (walk_of read) k (map (pin_behind (walk_of read)) xs)

  abbrev pub Asks : ℕ → Class → ℤ → Type 0
  Asks v k r = least_asked captures v (class_requirement all k) ≡ Some r

  pub behind-append : (k : Class) (xs ys : List ArcId) → behind k (xs ++ ys) ≡ behind (behind k xs) ys
  behind-append k xs ys =
      ap (along (walk_of read) k) (map-append (pin_behind (walk_of read)) xs ys)
      ∙ along-append (walk_of read) k (map (pin_behind (walk_of read)) xs) (map (pin_behind (walk_of read)) ys)

  pub EndsAt-read : (v : ℕ) (k : Class) (r : ℤ) → Asks v k r → EndsAt read v k
  EndsAt-read v k r asks = alike.to_read v k r asks

  -- the walks of both views are one, and so is where paths begin
  abbrev reached-held : (u : ℕ) (k : Class) → Reached u k → IsReached (walk_of held) (BeginsAt held (λ n. Unit {0})) u k
  reached-held u k reached = record {
    pin = reached.pin;
    first = reached.first;
    begins = record { launch = reached.begins.launch; number = reached.begins.number; from = tt; pin_is = reached.begins.pin_is; class_is = reached.begins.class_is };
    front = reached.front;
    joined = reached.joined;
    class_is = reached.class_is;
  }

  module _ (marks : List (Option ℕ)) (delay : ArcId → ℤ) (i : ℕ) (below : i < length blocks) (through : through_inside d (block_at blocks i ∷ []) all.exceptions ≡ None) where
    abbrev b : ℕ
    b = block_at blocks i

    abbrev pub context : Context
    context = record { design = d; timing = t; all = all; layered = layered; reached = marks; block = block_at blocks i }

    block : IsBlock d (block_at blocks i)
    block = are.each i 0 below

    -- the arcs go on from an output bit of the block, where the class is as before and the first arcs took what the arrival there leaves them
    pub record Leaves (k : Class) (xs : List ArcId) (z : ℕ) (start : ℤ) : Type 0 where
      pub front : List ArcId
      pub rest : List ArcId
      pub parts : xs ≡ front ++ rest
      pub shorter : length rest < length xs
      pub pin : ℕ
      pub output : is_output_of d (block_at blocks i) pin ≡ true
      pub time : ℤ
      pub arrives : ArrivesAt layered arrivals pin k time
      pub within : sum_over delay front ≤ℤ (time -ℤ start)
      pub class_is : behind k front ≡ k
      pub first : (u : ℕ) → Joined (walk_of read) u xs z → Joined (walk_of read) u front pin
      pub joined : Joined (walk_of read) pin rest z

    -- the piece that arcs inside the block make, between arcs that end outside and arcs that begin outside
    piece-of : (u : ℕ) (k : Class) (reached : Reached u k) → EndsOutside d arcs (block_at blocks i) reached.front → (front rest : List ArcId) → 0 < length front
        → All (λ x. is_arc_in d arcs (block_at blocks i) x ≡ true) front → BeginsOutside d arcs (block_at blocks i) rest
        → (z : ℕ) → Joined (walk_of read) u (front ++ rest) z → (r : ℤ) → Asks z (behind k (front ++ rest)) r → IsPiece held (block_at blocks i) u k front
    piece-of u k reached outside front rest some inner out z joined r asks =
        let before = reached-held u k reached in
        let n = reached.begins.launch in
        let path : TimingPath = record { launch = n; arcs = reached.front ++ (front ++ rest) } in
        let joins = nodes.joined-reached held kept.numbers (λ n. Unit {0}) u k before in
        let whole = Joined-append (walk_of held) reached.front (front ++ rest) (launch_at all.launches n).pin.0 u z joins joined in
        let class_same = nodes.class-reached held kept.numbers (λ n. Unit {0}) u k before (reached.front ++ (front ++ rest)) in
        let class_end : behind k (front ++ rest) ≡ class_behind held path path.arcs
        = ap (λ j. behind j (front ++ rest)) class_same ∙ nodes.class_behind-along held kept.numbers path reached.front (front ++ rest) in
        let constrained = nodes.constrained-from held kept.numbers n path.arcs z reached.begins.number
        (omega (arith, some, length-append reached.front (front ++ rest), length-append front rest)) whole (r, subst (λ j. Asks z j r) class_end asks) in
        record {
          path = path;
          room = r -ℤ (launch_at all.launches n).offset;
          constrained = constrained;
          front = reached.front;
          rest = rest;
          parts = refl;
          some = some;
          within = inner;
          before = outside;
          behind = out;
          pin_is = sym (Leads-last arcs reached.front (launch_at all.launches n).pin.0 u (nodes.Leads-from_joined held kept.numbers reached.front (launch_at all.launches n).pin.0 u joins));
          class_is = class_same;
        }

    -- the first arcs, all inside the block, lead to a pin inside it, and as a piece they take at most what is left there
    pub record Crossed (u : ℕ) (k : Class) (front rest : List ArcId) (z : ℕ) (start : ℤ) : Type 0 where
      pub pin : ℕ
      pub first : Joined (walk_of read) u front pin
      pub then : Joined (walk_of read) pin rest z
      pub inside : is_inside d.places (block_at blocks i) (pin_at d.pins pin).place ≡ true
      pub class_is : behind k front ≡ k
      pub end : ℤ
      pub ends : PieceEnds context arrivals (with_captures all captures) pin k end
      pub within : sum_over delay front ≤ℤ (end -ℤ start)

    crossed : PiecesMeet context arcs arrivals (with_captures all captures) delay
        → (u : ℕ) (k : Class) (reached : Reached u k) → EndsOutside d arcs (block_at blocks i) reached.front → (x : ArcId) (others rest : List ArcId)
        → All (λ x. is_arc_in d arcs (block_at blocks i) x ≡ true) (x ∷ others) → BeginsOutside d arcs (block_at blocks i) rest
        → (z : ℕ) → Joined (walk_of read) u ((x ∷ others) ++ rest) z → (r : ℤ) → Asks z (behind k ((x ∷ others) ++ rest)) r
        → (start : ℤ) → ((s : ℤ) → PieceBegins context arrivals u k s → s ≡ start) → Crossed u k (x ∷ others) rest z start
    crossed meet u k reached outside x others rest inner out z joined r asks start begins =
        let split = Joined-front (walk_of read) (x ∷ others) rest u z joined in
        let met = meet u k (x ∷ others) (piece-of u k reached outside (x ∷ others) rest (omega arith) inner out z joined r asks) in
        let last = Leads-last arcs (x ∷ others) u split.0 (nodes.Leads-from_joined read kept.numbers (x ∷ others) u split.0 split.1.0) in
        record {
          pin = split.0;
          first = split.1.0;
          then = split.1.1;
          inside = last-inside d arcs all design homes (block_at blocks i) block x others u split.0 split.1.0 inner;
          class_is = stays d arcs all design homes (block_at blocks i) block through (x ∷ others) u split.0 k split.1.0 inner;
          end = met.has_room.end;
          ends = subst (λ v. PieceEnds context arrivals (with_captures all captures) v k met.has_room.end) last met.has_room.ends;
          within = omega (arith, ints, met.within, met.has_room.room_is, begins met.has_room.start met.has_room.begins);
        }

    -- where they end there
    ends-inside : (u : ℕ) (k : Class) (front : List ArcId) (z : ℕ) (start r : ℤ) (c : Crossed u k front [] z start) → Asks z (behind k front) r
        → PieceEnds context arrivals (with_captures all captures) c.pin k c.end → sum_over delay front ≤ℤ (r -ℤ start)
    ends-inside u k front z start r c asks ends = by_end ends
      where
        asked : Asks c.pin k r
        asked = subst (λ j. Asks c.pin j r) c.class_is (subst (λ v. Asks v (behind k front) r) (sym c.then) asks)

        by_end : PieceEnds context arrivals (with_captures all captures) c.pin k c.end → sum_over delay front ≤ℤ (r -ℤ start)
        by_end (inl port) =
            let read_too = alike.to_read c.pin k r asked in
            absurd (asked-no_port d design blocks are t all stand i c.pin (class_requirement all k) read_too.0 read_too.1 below c.inside (inr port.0))
        by_end (inr data_pin) = omega (arith, ints, c.within, same-some c.end r (sym data_pin.1 ∙ asked))

    -- where they go on from there
    goes-on : (u : ℕ) (k : Class) (x : ArcId) (others : List ArcId) (y : ArcId) (ys : List ArcId) (z : ℕ) (start : ℤ) (c : Crossed u k (x ∷ others) (y ∷ ys) z start) → is_arc_in d arcs (block_at blocks i) y ≡ false
        → PieceEnds context arrivals (with_captures all captures) c.pin k c.end → Leaves k ((x ∷ others) ++ y ∷ ys) z start
    goes-on u k x others y ys z start c outer ends = by_end ends
      where
        output : is_output_of d (block_at blocks i) c.pin ≡ true
        output =
            let out = CrossesPorts-arc d design b block (arc_at arcs y.0) (homes y.0 c.then.0.0) outer in
            subst (λ v. is_output_of d (block_at blocks i) v ≡ true) c.then.1 (out.leaves (subst (λ v. is_inside d.places (block_at blocks i) (pin_at d.pins v).place ≡ true) (sym c.then.1) c.inside))

        by_end : PieceEnds context arrivals (with_captures all captures) c.pin k c.end → Leaves k ((x ∷ others) ++ y ∷ ys) z start
        by_end (inl port) = record {
          front = x ∷ others;
          rest = y ∷ ys;
          parts = refl;
          shorter = omega (arith, length-append (x ∷ others) (y ∷ ys));
          pin = c.pin;
          output = output;
          time = c.end;
          arrives = port.1;
          within = c.within;
          class_is = c.class_is;
          first = λ v other. subst (λ n. Joined (walk_of read) n (x ∷ others) c.pin) (sym c.first.1 ∙ other.1) c.first;
          joined = c.then;
        }
        by_end (inr data_pin) = absurd (leaf-no_port d design blocks are i c.pin below (stand.checked c.pin data_pin.0) (inr output))

    crosses-by : PiecesMeet context arcs arrivals (with_captures all captures) delay
        → (u : ℕ) (k : Class) (reached : Reached u k) → EndsOutside d arcs (block_at blocks i) reached.front → (x : ArcId) (others rest : List ArcId)
        → All (λ x. is_arc_in d arcs (block_at blocks i) x ≡ true) (x ∷ others) → BeginsOutside d arcs (block_at blocks i) rest
        → (z : ℕ) → Joined (walk_of read) u ((x ∷ others) ++ rest) z → (r : ℤ) → Asks z (behind k ((x ∷ others) ++ rest)) r
        → (start : ℤ) → ((s : ℤ) → PieceBegins context arrivals u k s → s ≡ start)
        → (sum_over delay ((x ∷ others) ++ rest) ≤ℤ (r -ℤ start)) ⊎ Leaves k ((x ∷ others) ++ rest) z start
    crosses-by meet u k reached outside x others [] inner out z joined r asks start begins =
        let c = crossed meet u k reached outside x others [] inner out z joined r asks start begins in
        let nothing = append-nil (x ∷ others) in
        inl (subst (λ ys. sum_over delay ys ≤ℤ (r -ℤ start)) (sym nothing)
        (ends-inside u k (x ∷ others) z start r c (subst (λ ys. Asks z (behind k ys) r) nothing asks) c.ends))
    crosses-by meet u k reached outside x others (y ∷ ys) inner out z joined r asks start begins =
        let c = crossed meet u k reached outside x others (y ∷ ys) inner out z joined r asks start begins in
        inr (goes-on u k x others y ys z start c (out y ys refl) c.ends)

    -- arcs that begin inside the block take at most what is asked at their end, or leave the block
    pub crosses : PiecesMeet context arcs arrivals (with_captures all captures) delay
        → (u : ℕ) (k : Class) (reached : Reached u k) → EndsOutside d arcs (block_at blocks i) reached.front
        → (x : ArcId) (xs : List ArcId) → is_arc_in d arcs (block_at blocks i) x ≡ true → (z : ℕ) → Joined (walk_of read) u (x ∷ xs) z
        → (r : ℤ) → Asks z (behind k (x ∷ xs)) r
        → (start : ℤ) → ((s : ℤ) → PieceBegins context arrivals u k s → s ≡ start)
        → (sum_over delay (x ∷ xs) ≤ℤ (r -ℤ start)) ⊎ Leaves k (x ∷ xs) z start
    crosses meet u k reached outside x xs inner z joined r asks start begins =
        let is = IsFront-of d arcs b xs in
        subst (λ ys. (sum_over delay (x ∷ ys) ≤ℤ (r -ℤ start)) ⊎ Leaves k (x ∷ ys) z start) (sym is.parts)
        (crosses-by meet u k reached outside x is.front is.rest (All-cons (λ x. is_arc_in d arcs (block_at blocks i) x ≡ true) x is.front inner is.within) is.behind z
        (subst (λ ys. Joined (walk_of read) u (x ∷ ys) z) is.parts joined) r (subst (λ ys. Asks z (behind k (x ∷ ys)) r) is.parts asks) start begins)

  module _ (policy : Policy) (budgets : List ℤ) (layering : IsLayering read policy layered) (suit : SuitBudgets layered.problem budgets arrivals) (marks : List (Option ℕ)) (delay : ArcId → ℤ)
      (through : (i : ℕ) → i < length blocks → through_inside d (block_at blocks i ∷ []) all.exceptions ≡ None)
      (meet : (i : ℕ) → i < length blocks
      → PiecesMeet (record { design = d; timing = t; all = all; layered = layered; reached = marks; block = block_at blocks i }) arcs arrivals (with_captures all captures) delay)
      (glue : (j : ItemId) → j.0 < length layered.items → IsGlue d arcs blocks (arc_of_item layered.items j) → delay (arc_of_item layered.items j) ≤ℤ number_at budgets j.0) where
    abbrev Arrives : ℕ → Class → ℤ → Type 0
    Arrives v k time = ArrivesAt layered arrivals v k time

    -- what is claimed of arcs from a boundary pin: with what was taken before they take at most what is asked at their end
    abbrev Claim : List ArcId → Type 0
    Claim xs =
        (u : ℕ) (k : Class) → Reached u k → IsBoundary d blocks u → (s : ℤ) → Arrives u k s → (taken : ℤ) → taken ≤ℤ s
        → (z : ℕ) → Joined (walk_of read) u xs z → (r : ℤ) → Asks z (behind k xs) r → (taken +ℤ sum_over delay xs) ≤ℤ r

    -- what leads on to where something is asked is a node
    node-of : (u : ℕ) (k : Class) → Reached u k → (xs : List ArcId) (z : ℕ) → Joined (walk_of read) u xs z → (r : ℤ) → Asks z (behind k xs) r → IsNode read u k
    node-of u k reached xs z joined r asks =
        (nodes.IsNode-from_split read kept.numbers kept.apart (λ n. Unit {0}) u k
        (record { reached = reached; leads = record { rest = xs; pin = z; joined = joined; ends = EndsAt-read z (behind k xs) r asks } })).0

    claim-end : Claim []
    claim-end u k reached boundary s arrives taken most z joined r asks =
        let here : Asks u k r = subst (λ v. Asks v k r) (sym joined) asks in
        let read_too = alike.to_read u k r here in
        let outside = asked-outside d design blocks are t all stand u (class_requirement all k) read_too.0 read_too.1 boundary in
        omega (arith, ints, most, arriving.ends-most read policy layered layering budgets arrivals suit u k r (sym (alike.outside u k outside) ∙ here) s arrives)

    -- from an arc outside all blocks
    claim-glue : (x : ArcId) (xs : List ArcId) → IsGlue d arcs blocks x → Claim xs → Claim (x ∷ xs)
    claim-glue x xs outer rest u k reached boundary s arrives taken most z joined r asks =
        let to = (arc_at arcs x.0).to in
        let next = class_at all k to in
        let from_reached = subst (λ v. Reached v k) (sym joined.1) reached in
        let leads : LeadsOn (walk_of read) (EndsAt read) to next = record { rest = xs; pin = z; joined = joined.2; ends = EndsAt-read z (behind next xs) r asks } in
        let item = (nodes.IsItem-from_split read kept.numbers (λ n. Unit {0}) x k (record { below = joined.0.0; inside = joined.0.1; reached = from_reached; leads = leads })).0 in
        let onward = IsReached-arc (walk_of read) (BeginsAt read (λ n. Unit {0})) to next (record { arc = x; before = k; uses = joined.0; to = refl; reached = from_reached; goes = refl }) in
        let node = subst (λ v. IsNode read v k) (sym joined.1) (node-of u k reached (x ∷ xs) z joined r asks) in
        let follows = arriving.Follows-item read policy layered layering budgets arrivals suit x k item node in
        let there = arriving.arrives-node read policy layered layering budgets arrivals suit to next (node-of to next onward xs z joined.2 r asks) in
        let budgeted : delay x ≤ℤ number_at budgets follows.item.0
        = subst (λ y. delay y ≤ℤ number_at budgets follows.item.0) follows.arc_is
        (glue follows.item (places.item-below read policy layered layering follows.item follows.below) (subst (IsGlue d arcs blocks) (sym follows.arc_is) outer)) in
        let between = follows.follows s there.0 (subst (λ v. Arrives v k s) (sym joined.1) arrives) there.1 in
        let enters : IsBoundary d blocks to = λ i within inner.
        inl ((CrossesPorts-arc d design (block_at blocks i) (are.each i 0 within) (arc_at arcs x.0) (homes x.0 joined.0.0) (outer i 0 within)).enters inner) in
        omega (arith, ints, rest to next onward enters there.0 there.1 (taken +ℤ delay x) (omega (arith, ints, most, budgeted, between)) z joined.2 r asks)

    -- behind a block
    claim-behind : (i : ℕ) (below : i < length blocks) (k : Class) (xs : List ArcId) (z : ℕ) (start : ℤ) (leaves : Leaves marks delay i below (through i below) k xs z start) → Claim leaves.rest
        → (u : ℕ) → Reached u k → Joined (walk_of read) u xs z → (taken : ℤ) → taken ≤ℤ start → (r : ℤ) → Asks z (behind k xs) r → (taken +ℤ sum_over delay xs) ≤ℤ r
    claim-behind i below k xs z start leaves rest u reached joined taken most r asks =
        let front = leaves.first u joined in
        let onward = subst (λ j. Reached leaves.pin j) leaves.class_is (IsReached-on (walk_of read) (BeginsAt read (λ n. Unit {0})) u k leaves.front leaves.pin reached front) in
        let class_same : behind k xs ≡ behind k leaves.rest = ap (behind k) leaves.parts ∙ (behind-append k leaves.front leaves.rest ∙ ap (λ j. behind j leaves.rest) leaves.class_is) in
        let summed = ap (sum_over delay) leaves.parts ∙ sum_over-append delay leaves.front leaves.rest in
        omega (
          arith,
          ints,
          summed,
          rest leaves.pin k onward (output-boundary d design blocks are i leaves.pin below leaves.output) leaves.time leaves.arrives (taken +ℤ sum_over delay leaves.front)
              (omega (arith, ints, most, leaves.within)) z leaves.joined r (subst (λ j. Asks z j r) class_same asks),
        )

    -- an arc inside a block leads from no input bit into it
    never-enters : (i : ℕ) → i < length blocks → (pin u : ℕ) (front : List ArcId) → Joined (walk_of read) pin front u → is_input_of d (block_at blocks i) u ≡ true
        → EndsOutside d arcs (block_at blocks i) front
    never-enters i below pin u front joined input first y e = by_test (is_arc_in d arcs (block_at blocks i) y) refl
      where
        last : (v : ℕ) × (Joined (walk_of read) pin first v × Joined (walk_of read) v (y ∷ []) u)
        last = Joined-front (walk_of read) first (y ∷ []) pin u (subst (λ ys. Joined (walk_of read) pin ys u) e joined)

        by_test : (t : Bool) → is_arc_in d arcs (block_at blocks i) y ≡ t → t ≡ false
        by_test false outer = refl
        by_test true inner =
            let ends = EndsInside-arc d design (block_at blocks i) (are.each i 0 below) (arc_at arcs y.0) (homes y.0 last.1.1.0.0) inner in
            absurd (true≢false (sym (subst (λ v. is_input_of d (block_at blocks i) v ≡ true) (sym last.1.1.2) input) ∙ ends.enters))

    only-input : (a b : Bool) → (a ≡ true) ⊎ (b ≡ true) → b ≡ false → a ≡ true
    only-input a b (inl input) none = input
    only-input a b (inr output) none = absurd (true≢false (sym output ∙ none))

    begins-input : (i : ℕ) (below : i < length blocks) (u : ℕ) (k : Class) (s : ℤ) → is_input_of d (block_at blocks i) u ≡ true → Arrives u k s
        → (time : ℤ) → PieceBegins (context marks delay i below (through i below)) arrivals u k time → time ≡ s
    begins-input i below u k s input arrives time (inl bit) = arriving.arrives-one read policy layered layering budgets arrivals suit u k time s bit.1 arrives
    begins-input i below u k s input arrives time (inr clock) = absurd (leaf-no_port d design blocks are i u below (stand.clocked u clock.0) (inl input))

    begins-clock : (i : ℕ) (below : i < length blocks) (u : ℕ) (k : Class) → IsLeafPin d u
        → (time : ℤ) → PieceBegins (context marks delay i below (through i below)) arrivals u k time → time ≡ pos 0
    begins-clock i below u k leaf time (inl bit) = absurd (leaf-no_port d design blocks are i u below leaf (inl bit.0))
    begins-clock i below u k leaf time (inr clock) = clock.1

    -- from an arc inside a block
    claim-block : (fuel : ℕ) → ((xs : List ArcId) → length xs ≤ fuel → Claim xs) → (i : ℕ) → i < length blocks → (x : ArcId) (xs : List ArcId) → is_arc_in d arcs (block_at blocks i) x ≡ true
        → length xs ≤ fuel → Claim (x ∷ xs)
    claim-block fuel rest i below x xs inner few u k reached boundary s arrives taken most z joined r asks =
        let ends = EndsInside-arc d design (block_at blocks i) (are.each i 0 below) (arc_at arcs x.0) (homes x.0 joined.0.0) inner in
        let input = only-input (is_input_of d (block_at blocks i) u) (is_output_of d (block_at blocks i) u)
        (boundary i below (subst (λ v. is_inside d.places (block_at blocks i) (pin_at d.pins v).place ≡ true) joined.1 ends.from))
        (subst (λ v. is_output_of d (block_at blocks i) v ≡ false) joined.1 ends.leaves) in
        elim (crosses marks delay i below (through i below) (meet i below) u k reached (never-enters i below reached.pin u reached.front reached.joined input) x xs inner z joined r asks
        s (begins-input i below u k s input arrives)) [
          | inl within ↦ omega (arith, ints, within, most)
          | inr leaves ↦ claim-behind i below k (x ∷ xs) z s leaves (rest leaves.rest (omega (arith, leaves.shorter, few))) u reached joined taken most r asks
        ]

    claim : (fuel : ℕ) (xs : List ArcId) → length xs ≤ fuel → Claim xs
    claim fuel [] few = claim-end
    claim zero (x ∷ xs) few = absurd (omega (arith, few))
    claim (suc fuel) (x ∷ xs) few = elim (member-or_none (λ b. is_arc_in d arcs b x) 0 blocks) [
      | inl member ↦ claim-block fuel (claim fuel) member.number member.below x xs member.passes (omega (arith, few))
      | inr none ↦ claim-glue x xs none (claim fuel xs (omega (arith, few)))
    ]

    abbrev pin_of : ℕ → ℕ
    pin_of n = (launch_at all.launches n).pin.0

    abbrev first_of : ℕ → Class
    first_of n = class_of all (launch_at all.launches n) ((launch_at all.launches n).pin.0 ∷ [])

    abbrev reached-first : (n : ℕ) → n < length all.launches → Reached (pin_of n) (first_of n)
    reached-first n below = record {
      pin = pin_of n;
      first = first_of n;
      begins = record { launch = n; number = below; from = tt; pin_is = refl; class_is = refl };
      front = [];
      joined = refl;
      class_is = refl;
    }

    nothing-ends : (i : ℕ) (first : List ArcId) (y : ArcId) → [] ≡ first ++ y ∷ [] → is_arc_in d arcs (block_at blocks i) y ≡ false
    nothing-ends i first y e = absurd (omega (arith, ap (λ (ys : List ArcId). length ys) e, length-append first (y ∷ [])))

    -- a path from a launch inside a block, which is at one of its clock pins
    from-block : (n : ℕ) → n < length all.launches → (i : ℕ) → i < length blocks → is_inside d.places (block_at blocks i) (pin_at d.pins (pin_of n)).place ≡ true → (x : ArcId) (xs : List ArcId)
        → (z : ℕ) → Joined (walk_of read) (pin_of n) (x ∷ xs) z → (r : ℤ) → Asks z (behind (first_of n) (x ∷ xs)) r → IsLeafPin d (pin_of n) → sum_over delay (x ∷ xs) ≤ℤ r
    from-block n number i below inner x xs z joined r asks leaf = by_test (is_arc_in d arcs (block_at blocks i) x) refl
      where
        by_test : (b : Bool) → is_arc_in d arcs (block_at blocks i) x ≡ b → sum_over delay (x ∷ xs) ≤ℤ r
        by_test false outer =
            let out = CrossesPorts-arc d design (block_at blocks i) (are.each i 0 below) (arc_at arcs x.0) (homes x.0 joined.0.0) outer in
            absurd (leaf-no_port d design blocks are i (pin_of n) below leaf (inr (subst (λ v. is_output_of d (block_at blocks i) v ≡ true) joined.1
            (out.leaves (subst (λ v. is_inside d.places (block_at blocks i) (pin_at d.pins v).place ≡ true) (sym joined.1) inner)))))
        by_test true within = elim (crosses marks delay i below (through i below) (meet i below) (pin_of n) (first_of n) (reached-first n number) (nothing-ends i) x xs within z joined r asks
            (pos 0) (begins-clock i below (pin_of n) (first_of n) leaf)) [
              | inl most ↦ omega (arith, ints, most)
              | inr leaves ↦
                  let there = claim-behind i below (first_of n) (x ∷ xs) z (pos 0) leaves (claim (length leaves.rest) leaves.rest (omega arith)) (pin_of n) (reached-first n number) joined (pos 0) (omega (arith, ints)) r asks in
                  omega (arith, ints, there)
            ]

    -- a path from any launch
    meets-from : (n : ℕ) → n < length all.launches → (xs : List ArcId) → 0 < length xs → (z : ℕ) → Joined (walk_of read) (pin_of n) xs z → (r : ℤ) → Asks z (behind (first_of n) xs) r
        → ((launch_at all.launches n).offset +ℤ sum_over delay xs) ≤ℤ r
    meets-from n number [] some z joined r asks = absurd (omega (arith, some))
    meets-from n number (x ∷ xs) some z joined r asks = elim (member-or_none (λ b. is_inside d.places b (pin_at d.pins (pin_of n)).place) 0 blocks) [
      | inl member ↦ by_stand member.number member.below member.passes (stand.launches n (launch_at [] 0) number)
      | inr none ↦
          let reached = reached-first n number in
          let arrives = arriving.arrives-node read policy layered layering budgets arrivals suit (pin_of n) (first_of n) (node-of (pin_of n) (first_of n) reached (x ∷ xs) z joined r asks) in
          claim (length (x ∷ xs)) (x ∷ xs) (omega arith) (pin_of n) (first_of n) reached (λ i within inner. absurd (true≢false (sym inner ∙ none i 0 within))) arrives.0 arrives.1
          (launch_at all.launches n).offset (arriving.begins-most read policy layered layering budgets arrivals suit n number arrives.0 arrives.1) z joined r asks
    ]
      where
        by_stand : (i : ℕ) → i < length blocks → is_inside d.places (block_at blocks i) (pin_at d.pins (pin_of n)).place ≡ true → LaunchStands d t (launch_at all.launches n)
            → ((launch_at all.launches n).offset +ℤ sum_over delay (x ∷ xs)) ≤ℤ r
        by_stand i below inner (inl top) = absurd (top-outside d design blocks are i (pin_of n) below top inner)
        by_stand i below inner (inr clock) =
            omega (arith, ints, clock.offset, from-block n number i below inner x xs z joined r asks (stand.clocked (pin_of n) clock.clocked))

    -- every constrained path, by the amounts in hand, takes at most its room
    pub paths-meet : (path : TimingPath) (room : ℤ) → IsConstrained held path room → sum_over delay path.arcs ≤ℤ room
    paths-meet path room constrained =
        let last = last_pin arcs (pin_of path.launch) path.arcs in
        let joined = nodes.Joined-from_constrained held kept.numbers path room constrained in
        let ends = nodes.EndsAt-from_constrained held kept.numbers path room constrained in
        let asked = nodes.asks-room held kept.numbers path room constrained ends in
        let asks = subst (λ j. Asks last j ends.0) (sym (nodes.class_behind-along held kept.numbers path [] path.arcs)) ends.1 in
        omega (arith, ints, asked, meets-from path.launch constrained.is_path.launch path.arcs constrained.is_path.some last joined ends.0 asks)
