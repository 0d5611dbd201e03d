-- Delays that are at most the budgets of their items meet every piece's room, at the setup amounts as read.
use Rattle.std.specs.Prelude.{◌≡◌, ℕ, ◌<◌, ℤ, pos, ◌+ℤ◌, ◌≤ℤ◌, true, List, [], ◌∷◌, ◌++◌, map, length, All, Option, None}
use Rattle.std.proofs.Common.{true≢false, refl, sym, ◌∙◌, ap, subst, arith, inl, inr}
use Rattle.std.proofs.lemmas.Int.{ints}
use Rattle.std.proofs.lemmas.List.{map-append}
use Rattle.bud_base.specs.declared.ids.ArcId.{ArcId}
use Rattle.bud_base.specs.declared.ids.ItemId.{ItemId}
use Rattle.bud_design.specs.declared.clocks.Constraints.{Constraints}
use Rattle.bud_design.specs.declared.layers.Class.{Class}
use Rattle.bud_design.specs.declared.layers.Layered.{Layered}
use Rattle.bud_design.specs.declared.policies.Policy.{Policy}
use Rattle.bud_design.specs.declared.timings.Timing.{Timing}
use Rattle.bud_design.specs.Arcs.{Arc, arc_at}
use Rattle.bud_design.specs.ConstraintRules.{AreSoundConstraints}
use Rattle.bud_design.specs.Correspondences.{arc_of_item}
use Rattle.bud_design.specs.Designs.{Design, pin_at, is_inside}
use Rattle.bud_design.specs.DesignRules.{IsDesign}
use Rattle.bud_design.specs.Exceptions.{class_at}
use Rattle.bud_design.specs.Layers.{IsNode, IsLayering, walk_of, BeginsAt, EndsAt, class_behind}
use Rattle.bud_design.specs.Reaching.{pin_behind, Joined, along, IsReached, LeadsOn}
use Rattle.bud_design.specs.TimingPaths.{View, path_start, launch_at, last_pin, sum_over}
use Rattle.bud_design.proofs.Leading.{Leads-last}
use Rattle.bud_design.proofs.NodeLaws as nodes
use Rattle.bud_design.proofs.ReachingLaws.{Joined-front, along-append, IsReached-arc, IsReached-on, LeadsOn-arc, LeadsOn-before}
use Rattle.bud_flow.specs.Sums.{number_at}
use Rattle.bud_plans.specs.Budgets.{SuitBudgets}
use Rattle.layer_theory.proofs.LayerPlaces as places
use Rattle.block_theory.specs.Blocks.{IsBlock, is_input_of, is_arc_in, through_inside}
use Rattle.block_theory.specs.Pieces.{IsPiece, IsPieceOf, PieceBegins, PieceEnds, ArrivesAt}
use Rattle.block_theory.proofs.Insides.{CrossesPorts-arc, leaf-no_input}
use Rattle.block_laws.specs.Standing.{HaveHomes, IsLeafPin, LaunchStands, PathsStand, block_context}
use Rattle.block_laws.proofs.Arriving as arriving
use Rattle.block_laws.proofs.Staying.{stays, first-inside}
use Rattle.block_laws.proofs.Standing.{top-not_inside}

-- a list with an element has a last one
snoc-of : (y : ArcId) (ys : List ArcId) → (first : List ArcId) × ((z : ArcId) × (y ∷ ys ≡ first ++ z ∷ []))
snoc-of y [] = ([], (y, refl))
snoc-of y (x ∷ xs) =
    let rest = snoc-of x xs in
    (y ∷ rest.0, (rest.1.0, ap (λ zs. y ∷ zs) rest.1.1))

module _ (d : Design) (t : Timing) (arcs : List Arc) (all : Constraints) (policy : Policy) (layered : Layered) (budgets arrivals : List ℤ) (pins : ℕ)
    (design : IsDesign d) (homes : HaveHomes d arcs) (kept : AreSoundConstraints pins all) (stand : PathsStand d t all)
    (layering : IsLayering (record { design = d; root = 0; arcs = arcs; all = all }) policy layered) (suit : SuitBudgets layered.problem budgets arrivals)
    (delay : ArcId → ℤ) (budgeted : (j : ItemId) → j.0 < length layered.items → delay (arc_of_item layered.items j) ≤ℤ number_at budgets j.0) where
  abbrev read : View
  read = record { design = d; root = 0; arcs = arcs; all = all }

  abbrev Reached : ℕ → Class → Type 0
  Reached u k = IsReached (walk_of read) (BeginsAt read (λ n. Unit {0})) u k

  abbrev Leads : ℕ → Class → Type 0
  Leads v k = LeadsOn (walk_of read) (EndsAt read) v k

  abbrev behind : Class → List ArcId → Class
  behind k xs = along (walk_of read) k (map (pin_behind (walk_of read)) xs)

  abbrev Arrives : ℕ → Class → ℤ → Type 0
  Arrives v k time = ArrivesAt layered arrivals v k time

  node-of : (u : ℕ) (k : Class) → Reached u k → Leads u k → IsNode read u k
  node-of u k reached leads = (nodes.IsNode-from_split read kept.numbers kept.apart (λ n. Unit {0}) u k (record { reached = reached; leads = leads })).0

  -- arrivals rise along arcs by at least the delays
  climbs : (xs : List ArcId) (u : ℕ) (k : Class) → Reached u k → (w : ℕ) → Joined (walk_of read) u xs w → Leads w (behind k xs) → (s : ℤ) → Arrives u k s → (e : ℤ) → Arrives w (behind k xs) e
      → (s +ℤ sum_over delay xs) ≤ℤ e
  climbs [] u k reached w joined leads s first e last =
      omega (arith, ints, arriving.arrives-one read policy layered layering budgets arrivals suit w k s e (subst (λ v. Arrives v k s) joined first) last)
  climbs (x ∷ xs) u k reached w joined leads s first e last =
      let to = (arc_at arcs x.0).to in
      let next = class_at all k to in
      let from_reached = subst (λ v. Reached v k) (sym joined.1) reached in
      let onward : Leads to next = LeadsOn-before (walk_of read) (EndsAt read) to next xs w joined.2 leads in
      let item = (nodes.IsItem-from_split read kept.numbers (λ n. Unit {0}) x k (record { below = joined.0.0; inside = joined.0.1; reached = from_reached; leads = onward })).0 in
      let there_reached = IsReached-arc (walk_of read) (BeginsAt read (λ n. Unit {0})) to next (record { arc = x; before = k; uses = joined.0; to = refl; reached = from_reached; goes = refl }) in
      let here_leads = LeadsOn-arc (walk_of read) (EndsAt read) (arc_at arcs x.0).from k (record { arc = x; uses = joined.0; from = refl; leads = onward }) in
      let node = node-of (arc_at arcs x.0).from k from_reached here_leads in
      let follows = arriving.Follows-item read policy layered layering budgets arrivals suit x k item node in
      let there = arriving.arrives-node read policy layered layering budgets arrivals suit to next (node-of to next there_reached onward) in
      let least : delay x ≤ℤ number_at budgets follows.item.0
      = subst (λ y. delay y ≤ℤ number_at budgets follows.item.0) follows.arc_is (budgeted follows.item (places.item-below read policy layered layering follows.item follows.below)) in
      let between = follows.follows s there.0 (subst (λ v. Arrives v k s) (sym joined.1) first) there.1 in
      omega (arith, ints, least, between, climbs xs to next there_reached w joined.2 leads there.0 there.1 e last)

  module _ (marks : List (Option ℕ)) (b : ℕ) (block : IsBlock d b) (through : through_inside d (b ∷ []) all.exceptions ≡ None) where
    -- a piece joins a state that is reached to one that leads on
    record Spans (u : ℕ) (k : Class) (cs : List ArcId) : Type 0 where
      pub reached : Reached u k
      pub last : ℕ
      pub joined : Joined (walk_of read) u cs last
      pub leads : Leads last (behind k cs)

    spans : (u : ℕ) (k : Class) (cs : List ArcId) → IsPiece read b u k cs → Spans u k cs
    spans u k cs piece =
        let path = piece.path in
        let pin = (path_start read path).pin.0 in
        let end = last_pin arcs pin path.arcs in
        let whole = subst (λ xs. Joined (walk_of read) pin xs end) piece.parts (nodes.Joined-from_constrained read kept.numbers path piece.room piece.constrained) in
        let ends = subst (λ xs. EndsAt read end (class_behind read path xs)) piece.parts (nodes.EndsAt-from_constrained read kept.numbers path piece.room piece.constrained) in
        let first = Joined-front (walk_of read) piece.front (cs ++ piece.rest) pin end whole in
        let middle : first.0 ≡ u = sym (Leads-last arcs piece.front pin first.0 (nodes.Leads-from_joined read kept.numbers piece.front pin first.0 first.1.0)) ∙ sym piece.pin_is in
        let second = Joined-front (walk_of read) cs piece.rest u end (subst (λ v. Joined (walk_of read) v (cs ++ piece.rest) end) middle first.1.1) in
        let class_end : behind (behind k cs) piece.rest ≡ class_behind read path (piece.front ++ (cs ++ piece.rest))
        = sym (along-append (walk_of read) k (map (pin_behind (walk_of read)) cs) (map (pin_behind (walk_of read)) piece.rest))
        ∙ (ap (along (walk_of read) k) (sym (map-append (pin_behind (walk_of read)) cs piece.rest))
        ∙ (ap (λ j. behind j (cs ++ piece.rest)) piece.class_is ∙ nodes.class_behind-along read kept.numbers path piece.front (cs ++ piece.rest))) in
        record {
          reached = subst (Reached u) (sym piece.class_is)
              (nodes.reached-front read kept.numbers (λ n. Unit {0}) path piece.constrained.is_path.launch tt piece.front u (subst (Joined (walk_of read) pin piece.front) middle first.1.0));
          last = second.0;
          joined = second.1.0;
          leads = record { rest = piece.rest; pin = end; joined = second.1.1; ends = subst (EndsAt read end) (sym class_end) ends };
        }

    -- a piece that begins at a clock pin begins a path, so that the arrival there is at least 0
    begins-least : (u : ℕ) (k : Class) (cs : List ArcId) (piece : IsPiece read b u k cs) → is_inside d.places b (pin_at d.pins u).place ≡ true → IsLeafPin d u → (s : ℤ) → Arrives u k s → pos 0 ≤ℤ s
    begins-least u k cs piece inner leaf s arrives = by_front piece.front refl
      where
        by_stand : u ≡ (path_start read piece.path).pin.0 → k ≡ class_behind read piece.path [] → LaunchStands d t (path_start read piece.path) → pos 0 ≤ℤ s
        by_stand pin_is class_is (inl top) = absurd (top-not_inside d design b block u (pin_is' pin_is top) inner)
          where
            pin_is' : u ≡ (path_start read piece.path).pin.0 → (pin_at d.pins (path_start read piece.path).pin.0).place ≡ 0 → (pin_at d.pins u).place ≡ 0
            pin_is' e is = subst (λ v. (pin_at d.pins v).place ≡ 0) (sym e) is
        by_stand pin_is class_is (inr clock) =
            let here = subst (λ v. Arrives v (class_behind read piece.path []) s) pin_is (subst (λ j. Arrives u j s) class_is arrives) in
            omega (arith, ints, clock.offset, arriving.begins-most read policy layered layering budgets arrivals suit piece.path.launch piece.constrained.is_path.launch s here)

        by_front : (front : List ArcId) → piece.front ≡ front → pos 0 ≤ℤ s
        by_front [] e =
            by_stand (piece.pin_is ∙ ap (last_pin arcs (path_start read piece.path).pin.0) e) (piece.class_is ∙ ap (class_behind read piece.path) e)
            (stand.launches piece.path.launch (launch_at [] 0) piece.constrained.is_path.launch)
        by_front (y ∷ ys) e =
            let last = snoc-of y ys in
            let is : piece.front ≡ last.0 ++ last.1.0 ∷ [] = e ∙ last.1.1 in
            let pin = (path_start read piece.path).pin.0 in
            let end = last_pin arcs pin piece.path.arcs in
            let whole = subst (λ xs. Joined (walk_of read) pin xs end) piece.parts (nodes.Joined-from_constrained read kept.numbers piece.path piece.room piece.constrained) in
            let first = Joined-front (walk_of read) piece.front (cs ++ piece.rest) pin end whole in
            let middle : first.0 ≡ u = sym (Leads-last arcs piece.front pin first.0 (nodes.Leads-from_joined read kept.numbers piece.front pin first.0 first.1.0)) ∙ sym piece.pin_is in
            let into = Joined-front (walk_of read) last.0 (last.1.0 ∷ []) pin u (subst (λ xs. Joined (walk_of read) pin xs u) is (subst (Joined (walk_of read) pin piece.front) middle first.1.0)) in
            let outer = piece.before last.0 last.1.0 is in
            let enters = (CrossesPorts-arc d design b block (arc_at arcs last.1.0.0) (homes last.1.0.0 into.1.1.0.0) outer).enters
            (subst (λ v. is_inside d.places b (pin_at d.pins v).place ≡ true) (sym into.1.1.2) inner) in
            absurd (true≢false (sym (subst (λ v. is_input_of d b v ≡ true) into.1.1.2 enters) ∙ leaf-no_input d design b block u leaf))

    start-least : (u : ℕ) (k : Class) (cs : List ArcId) → IsPiece read b u k cs → is_inside d.places b (pin_at d.pins u).place ≡ true → (s : ℤ) → Arrives u k s
        → (start : ℤ) → PieceBegins (block_context d t all layered marks b) arrivals u k start → start ≤ℤ s
    start-least u k cs piece inner s arrives start (inl bit) =
        omega (arith, ints, arriving.arrives-one read policy layered layering budgets arrivals suit u k start s bit.1 arrives)
    start-least u k cs piece inner s arrives start (inr clock) =
        omega (arith, ints, clock.1, begins-least u k cs piece inner (stand.clocked u clock.0) s arrives)

    end-most : (w : ℕ) (k : Class) (e : ℤ) → Arrives w k e → (end : ℤ) → PieceEnds (block_context d t all layered marks b) arrivals all w k end → e ≤ℤ end
    end-most w k e arrives end (inl bit) = omega (arith, ints, arriving.arrives-one read policy layered layering budgets arrivals suit w k e end arrives bit.1)
    end-most w k e arrives end (inr data_pin) = arriving.ends-most read policy layered layering budgets arrivals suit w k end data_pin.1 e arrives

    piece-inside : (u w : ℕ) (cs : List ArcId) → 0 < length cs → All (λ x. is_arc_in d arcs b x ≡ true) cs → Joined (walk_of read) u cs w → is_inside d.places b (pin_at d.pins u).place ≡ true
    piece-inside u w [] some inner joined = absurd (omega (arith, some))
    piece-inside u w (x ∷ xs) some inner joined = first-inside d arcs all design homes b block x xs u w joined (inner 0 x (omega arith))

    pub pieces-within : (u : ℕ) (k : Class) (cs : List ArcId) (room : ℤ) → IsPieceOf (block_context d t all layered marks b) arcs arrivals all u k cs room → sum_over delay cs ≤ℤ room
    pieces-within u k cs room is =
        let span = spans u k cs is.piece in
        let inner = piece-inside u span.last cs is.piece.some is.piece.within span.joined in
        let same = stays d arcs all design homes b block through cs u span.last k span.joined is.piece.within in
        let last : last_pin arcs u cs ≡ span.last = Leads-last arcs cs u span.last (nodes.Leads-from_joined read kept.numbers cs u span.last span.joined) in
        let first = arriving.arrives-node read policy layered layering budgets arrivals suit u k (node-of u k span.reached (LeadsOn-before (walk_of read) (EndsAt read) u k cs span.last span.joined span.leads)) in
        let last_leads = subst (Leads span.last) same span.leads in
        let there = arriving.arrives-node read policy layered layering budgets arrivals suit span.last k
        (node-of span.last k (subst (Reached span.last) same (IsReached-on (walk_of read) (BeginsAt read (λ n. Unit {0})) u k cs span.last span.reached span.joined)) last_leads) in
        let climb = climbs cs u k span.reached span.last span.joined span.leads first.0 first.1 there.0 (subst (λ j. Arrives span.last j there.0) (sym same) there.1) in
        let ends = subst (λ v. PieceEnds (block_context d t all layered marks b) arrivals all v k is.has_room.end) last is.has_room.ends in
        omega (arith, ints, climb, is.has_room.room_is, start-least u k cs is.piece inner first.0 first.1 is.has_room.start is.has_room.begins, end-most span.last k there.0 there.1 is.has_room.end ends)
