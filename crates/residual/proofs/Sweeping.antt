-- Arrivals that are raised along items, and what they are when all items are relaxed.
use Rattle.std.proofs.Common.{◌≡◌, ◌≢◌, ℕ, ℤ, pos, negsuc, ◌+ℤ◌, ◌≤ℤ◌, ◌+◌, ◌<◌, List, [], ◌∷◌, ◌++◌, length, set, Option, Some, None, arith, refl, ap, sym, subst, ◌∙◌, inl, inr, cond, Bool, true, false, get_or-set_same, get_or-set_other}
use Rattle.std.specs.Prelude.{int_lt, IsTrue}
use Rattle.std.proofs.lemmas.Int.{ints}
use Rattle.std.proofs.lemmas.Bool.{cases_eq, cases_lt}
use Rattle.std.proofs.Math.ListN.{length-set}
use Rattle.std.specs.Prelude.{replicate}
use Rattle.std.proofs.lemmas.List.{length-replicate, get_or-replicate}
use Rattle.bud_base.specs.Paths.{Path, Joins, Meets, item_at, start_at, end_at, sum_along, least_of, slack}
use Rattle.bud_base.specs.Orders.{IsOrder, node_at, IsReached, Reaches, IsCycle}
use Rattle.bud_base.proofs.OrderLemmas.{IsCycle-none}
use Rattle.bud_base.specs.Soundness.{IsSound, IsSoundItem, IsSoundStart, IsSoundEnd}
use Rattle.bud_base.specs.Leaving.{leaving_from}
use Rattle.bud_base.proofs.Joining.{Joins-append}
use Rattle.bud_base.proofs.Sums.{sum_along-append}
use Rattle.bud_base.proofs.LeavingLemmas.{leaving_from-some, leaving_from-none}
use Rattle.bud_base.specs.declared.ids.NodeId.{NodeId}
use Rattle.bud_base.specs.declared.ids.ItemId.{ItemId}
use Rattle.bud_base.specs.declared.problems.Problem.{Problem}
use Rattle.bud_flow.specs.Sums.{number_at}
use Rattle.bud_flow.specs.Arrivals.{SuitsItem, Suit}
use Rattle.residual.specs.Bounds.{IsWithin}
use Rattle.residual.specs.Sweeps.{raised, IsReachedAt, AreReached, Rise, SuitBefore, AreRelaxed, SuitStarts}

pub sound_item : (p : Problem) (i : ℕ) → IsSound p → i < length p.items → IsSoundItem p.nodes (item_at p.items i)
sound_item p i sound within = sound.items i (item_at [] 0) within

pub sound_start : (p : Problem) (s : ℕ) → IsSound p → s < length p.starts → IsSoundStart p.nodes (start_at p.starts s)
sound_start p s sound within = sound.starts s (start_at [] 0) within

pub sound_end : (p : Problem) (e : ℕ) → IsSound p → e < length p.ends → IsSoundEnd p.nodes (end_at p.ends e)
sound_end p e sound within = sound.ends e (end_at [] 0) within

-- least delays add up to at least 0
pub sum_along-least : (p : Problem) → IsSound p → (a : ℕ) (is : List ItemId) (b : ℕ) → Joins p.items a is b → pos 0 ≤ℤ sum_along (least_of p) is
sum_along-least p sound a [] b joined = omega (arith, ints)
sum_along-least p sound a (i ∷ is) b joined =
    omega (arith, ints, sum_along-least p sound (item_at p.items i.0).to.0 is b joined.2, (sound_item p i.0 sound joined.0).low)

-- ---- one arrival is raised
pub number_at-raised_here : (arrivals : List ℤ) (v : ℕ) (time : ℤ) → v < length arrivals → time ≤ℤ number_at (raised arrivals v time) v
number_at-raised_here arrivals v time there = at_test (int_lt (number_at arrivals v) time) refl
  where
    at_test : (b : Bool) → int_lt (number_at arrivals v) time ≡ b → time ≤ℤ number_at (cond b (set arrivals v time) arrivals) v
    at_test true e = rw (get_or-set_same arrivals v time (pos 0) there) (omega (arith, ints))
    at_test false e = grind (arith, ints)

pub number_at-raised_other : (arrivals : List ℤ) (v w : ℕ) (time : ℤ) → w ≢ v → number_at (raised arrivals v time) w ≡ number_at arrivals w
number_at-raised_other arrivals v w time other = at_test (int_lt (number_at arrivals v) time)
  where
    at_test : (b : Bool) → number_at (cond b (set arrivals v time) arrivals) w ≡ number_at arrivals w
    at_test true = get_or-set_other arrivals v w time (pos 0) other
    at_test false = refl

pub length-raised : (arrivals : List ℤ) (v : ℕ) (time : ℤ) → length (raised arrivals v time) ≡ length arrivals
length-raised arrivals v time = at_test (int_lt (number_at arrivals v) time)
  where
    at_test : (b : Bool) → length (cond b (set arrivals v time) arrivals) ≡ length arrivals
    at_test true = length-set arrivals v time
    at_test false = refl

pub Rise-raised : (arrivals : List ℤ) (v : ℕ) (time : ℤ) → v < length arrivals → Rise arrivals (raised arrivals v time)
Rise-raised arrivals v time there = record { each = λ w. at_test (int_lt (number_at arrivals v) time) refl w }
  where
    at_test : (b : Bool) → int_lt (number_at arrivals v) time ≡ b → (w : ℕ) → number_at arrivals w ≤ℤ number_at (cond b (set arrivals v time) arrivals) w
    at_test true e w = elim (cases_eq w v) [
      | inl same ↦ rw (same, get_or-set_same arrivals v time (pos 0) there) (grind (arith, ints))
      | inr other ↦ rw (get_or-set_other arrivals v w time (pos 0) other) (omega (arith, ints))
    ]
    at_test false e w = omega (arith, ints)

pub Rise-same : (arrivals : List ℤ) → Rise arrivals arrivals
Rise-same arrivals = record { each = λ v. omega (arith, ints) }

pub Rise-further : (old mid new : List ℤ) → Rise old mid → Rise mid new → Rise old new
Rise-further old mid new first second = record { each = λ v. omega (arith, ints, first.each v, second.each v) }

-- an arrival that was raised is what it was, or the time
raised-reached : (p : Problem) (arrivals : List ℤ) (v : ℕ) (time : ℤ) → v < length arrivals → ((w : ℕ) → w < p.nodes → IsReachedAt p w (number_at arrivals w)) → IsReachedAt p v time
    → (w : ℕ) → w < p.nodes → IsReachedAt p w (number_at (raised arrivals v time) w)
raised-reached p arrivals v time there reached here = at_test (int_lt (number_at arrivals v) time)
  where
    at_test : (b : Bool) → (w : ℕ) → w < p.nodes → IsReachedAt p w (number_at (cond b (set arrivals v time) arrivals) w)
    at_test true w below = elim (cases_eq w v) [
      | inl same ↦ rw (same, get_or-set_same arrivals v time (pos 0) there) here
      | inr other ↦ rw (get_or-set_other arrivals v w time (pos 0) other) (reached w below)
    ]
    at_test false w below = reached w below

pub AreReached-raised : (p : Problem) (arrivals : List ℤ) (v : ℕ) (time : ℤ) → v < p.nodes → AreReached p arrivals → IsReachedAt p v time → AreReached p (raised arrivals v time)
AreReached-raised p arrivals v time is_node are here =
    let there : v < length arrivals = omega (arith, are.size) in
    record {
      size = length-raised arrivals v time ∙ are.size;
      root = number_at-raised_other arrivals v p.nodes time (λ e. omega arith) ∙ are.root;
      early = λ w below. omega (arith, ints, are.early w below, (Rise-raised arrivals v time there).each w);
      reached = raised-reached p arrivals v time there are.reached here;
    }

-- ---- times at which nodes are reached
pub IsReachedAt-start : (p : Problem) (s : ℕ) → s < length p.starts → IsReachedAt p (start_at p.starts s).node.0 (start_at p.starts s).offset
IsReachedAt-start p s within = record { start = s; items = []; within = within; joined = refl; late = omega (arith, ints) }

pub IsReachedAt-item : (p : Problem) (i : ℕ) (time : ℤ) → i < length p.items → IsReachedAt p (item_at p.items i).from.0 time
    → IsReachedAt p (item_at p.items i).to.0 (time +ℤ (item_at p.items i).least)
IsReachedAt-item p i time within reached = record {
  start = reached.start;
  items = reached.items ++ (record { 0 = i } ∷ []);
  within = reached.within;
  joined = Joins-append p.items reached.items (record { 0 = i } ∷ []) (start_at p.starts reached.start).node.0 (item_at p.items i).from.0 (item_at p.items i).to.0 reached.joined (within, refl, refl);
  late = omega (arith, ints, reached.late, sum_along-append (least_of p) reached.items (record { 0 = i } ∷ []));
}

pub IsReachedAt-early : (p : Problem) (v : ℕ) → IsSound p → v < p.nodes → IsReachedAt p v (negsuc 1999999999999)
IsReachedAt-early p v sound is_node =
    let way : IsReached p v = (sound.live v is_node).0 in
    record {
      start = way.start;
      items = way.items;
      within = way.within;
      joined = way.joined;
      late = omega (arith, ints, (sound_start p way.start sound way.within).time.low, sum_along-least p sound _ way.items v way.joined);
    }

-- where an end follows, a node is reached no later than the end requires
pub IsReachedAt-end : (p : Problem) (v : ℕ) (time : ℤ) (is : List ItemId) (e : ℕ) → IsSound p → Meets p → IsReachedAt p v time → e < length p.ends
    → Joins p.items v is (end_at p.ends e).node.0 → time ≤ℤ (end_at p.ends e).require
IsReachedAt-end p v time is e sound meets reached within joined =
    let path : Path = record { start = reached.start; items = reached.items ++ is; end = e } in
    let whole = Joins-append p.items reached.items is (start_at p.starts reached.start).node.0 v (end_at p.ends e).node.0 reached.joined joined in
    let meeting : pos 0 ≤ℤ slack p (least_of p) path = meets path (record { start = reached.within; end = within; joined = whole }) in
    omega (arith, ints, meeting, reached.late, sum_along-append (least_of p) reached.items is, sum_along-least p sound v is _ joined)

pub IsReachedAt-late : (p : Problem) (v : ℕ) (time : ℤ) → IsSound p → Meets p → v < p.nodes → IsReachedAt p v time → time ≤ℤ pos 2000000000000
IsReachedAt-late p v time sound meets is_node reached =
    let way : Reaches p v = (sound.live v is_node).1 in
    omega (arith, ints, IsReachedAt-end p v time way.items way.end sound meets reached way.within way.joined, (sound_end p way.end sound way.within).time.high)

pub AreReached-within : (p : Problem) (arrivals : List ℤ) (v : ℕ) → IsSound p → Meets p → AreReached p arrivals → v < p.nodes → IsWithin (pos 2000000000000) (number_at arrivals v)
AreReached-within p arrivals v sound meets are is_node = record {
  low = omega (arith, ints, are.early v is_node);
  high = IsReachedAt-late p v (number_at arrivals v) sound meets is_node (are.reached v is_node);
}

-- ---- the items of one node after another
-- arrivals that are raised at the end of an item of a node still suit the items of nodes before it
SuitBefore-raised : (p : Problem) (order : List NodeId) (arrivals : List ℤ) (k i : ℕ) (time : ℤ) → IsOrder p.nodes p.items order → k < p.nodes → i < length p.items
    → (item_at p.items i).from.0 ≡ node_at order k → (item_at p.items i).to.0 < length arrivals → SuitBefore p order arrivals k → SuitBefore p order (raised arrivals (item_at p.items i).to.0 time) k
SuitBefore-raised p order arrivals k i time in_order place within leaves there before = record {
  each = λ h j inside below at_place.
      let v : ℕ = (item_at p.items i).to.0 in
      let later : in_order.place (node_at order k) < in_order.place v = rw (← leaves) (in_order.follows i within) in
      let differs : (item_at p.items h).from.0 ≢ v = λ e.
      let places : in_order.place v ≡ in_order.place (node_at order j) = ap in_order.place (sym e ∙ at_place) in
      omega (arith, places, later, in_order.at_place k place, in_order.at_place j (omega arith)) in
      omega (arith, ints, number_at-raised_other arrivals v (item_at p.items h).from.0 time differs, (Rise-raised arrivals v time there).each (item_at p.items h).to.0, before.each h j inside below at_place);
}

pub AreRelaxed-first : (p : Problem) (order : List NodeId) (k : ℕ) (arrivals : List ℤ) (first : Option ItemId) → AreReached p arrivals → SuitBefore p order arrivals k
    → first ≡ leaving_from p.items (node_at order k) 0 → AreRelaxed p order k arrivals arrivals first
AreRelaxed-first p order k arrivals first reached before is = record {
  reached = reached;
  rise = Rise-same arrivals;
  before = before;
  low = 0;
  next = is;
  here = λ i below. absurd (omega arith);
}

-- the next item of the node
pub record IsNextItem (p : Problem) (order : List NodeId) (k i : ℕ) : Type 0 where
  pub within : i < length p.items
  pub leaves : (item_at p.items i).from.0 ≡ node_at order k

pub IsNextItem-from_relaxed : (p : Problem) (order : List NodeId) (k : ℕ) (old new : List ℤ) (first : Option ItemId) (i : ItemId) → first ≡ Some i
    → AreRelaxed p order k old new first → IsNextItem p order k i.0
IsNextItem-from_relaxed p order k old new first i is relaxed =
    let found = leaving_from-some p.items (node_at order k) relaxed.low i (sym relaxed.next ∙ is) in
    record { within = found.within; leaves = found.leaves }

pub AreRelaxed-more : (p : Problem) (order : List NodeId) (k : ℕ) (old new after : List ℤ) (first second : Option ItemId) (i : ItemId) → IsSound p → IsOrder p.nodes p.items order → k < p.nodes
    → first ≡ Some i → second ≡ leaving_from p.items (item_at p.items i.0).from.0 (i.0 + 1) → AreRelaxed p order k old new first
    → after ≡ raised new (item_at p.items i.0).to.0 (number_at new (item_at p.items i.0).from.0 +ℤ (item_at p.items i.0).least) → AreRelaxed p order k old after second
AreRelaxed-more p order k old new after first second i sound in_order place is is_second relaxed is_after =
    let found = leaving_from-some p.items (node_at order k) relaxed.low i (sym relaxed.next ∙ is) in
    let x = sound_item p i.0 sound found.within in
    let v : ℕ = (item_at p.items i.0).to.0 in
    let u : ℕ = (item_at p.items i.0).from.0 in
    let time : ℤ = number_at new u +ℤ (item_at p.items i.0).least in
    let there : v < length new = omega (arith, relaxed.reached.size, x.to) in
    let rises = Rise-raised new v time there in
    let differs : (w : ℕ) → w ≡ node_at order k → w ≢ v = λ w at_k e.
    let places : in_order.place v ≡ in_order.place (node_at order k) = ap in_order.place (sym e ∙ at_k) in
    let same : in_order.place u ≡ in_order.place (node_at order k) = ap in_order.place found.leaves in
    omega (arith, places, same, in_order.follows i.0 found.within) in
    let suits : (h : ℕ) → h < i.0 + 1 → h < length p.items → (item_at p.items h).from.0 ≡ node_at order k → SuitsItem p (least_of p) (number_at (raised new v time)) h
    = λ h below inside leaves. elim (cases_lt h relaxed.low) [
      | inl before ↦
          omega (arith, ints, number_at-raised_other new v (item_at p.items h).from.0 time (differs _ leaves), rises.each (item_at p.items h).to.0, relaxed.here h before inside leaves)
      | inr after ↦ elim (cases_eq h i.0) [
        | inl same ↦ rw same (omega (arith, ints, number_at-raised_other new v u time (differs _ found.leaves), number_at-raised_here new v time there))
        | inr other ↦ absurd (found.between h after (omega arith) leaves)
      ]
    ] in
    let whole : AreRelaxed p order k old (raised new v time) second = record {
      reached = AreReached-raised p new v time x.to relaxed.reached (IsReachedAt-item p i.0 (number_at new u) found.within (relaxed.reached.reached u x.from));
      rise = Rise-further old new (raised new v time) relaxed.rise rises;
      before = SuitBefore-raised p order new k i.0 time in_order place found.within found.leaves there relaxed.before;
      low = i.0 + 1;
      next = is_second ∙ ap (λ w. leaving_from p.items w (i.0 + 1)) found.leaves;
      here = suits;
    } in
    let P : List ℤ → Type 0 = λ ts. AreRelaxed p order k old ts second in
    subst P (sym is_after) whole

pub SuitBefore-more : (p : Problem) (order : List NodeId) (k : ℕ) (old new : List ℤ) (first : Option ItemId) → first ≡ None
    → AreRelaxed p order k old new first → SuitBefore p order new (k + 1)
SuitBefore-more p order k old new first is relaxed = record {
  each = λ i j within below leaves. elim (cases_eq j k) [
    | inl same ↦
        let here : (item_at p.items i).from.0 ≡ node_at order k = leaves ∙ ap (node_at order) same in
        elim (cases_lt i relaxed.low) [
          | inl before ↦ relaxed.here i before within here
          | inr after ↦ absurd (leaving_from-none p.items (node_at order k) relaxed.low (sym relaxed.next ∙ is) i after within here)
        ]
    | inr other ↦ relaxed.before.each i j within (omega arith) leaves
  ];
}

-- ---- the whole sweep
pub SuitStarts-more : (p : Problem) (arrivals after : List ℤ) (k : ℕ) (time : ℤ) → IsSound p → AreReached p arrivals → SuitStarts p arrivals k → k < length p.starts
    → time ≡ (start_at p.starts k).offset → after ≡ raised arrivals (start_at p.starts k).node.0 time → SuitStarts p after (k + 1)
SuitStarts-more p arrivals after k time sound reached suited within same_time is =
    let x = sound_start p k sound within in
    let v : ℕ = (start_at p.starts k).node.0 in
    let there : v < length arrivals = omega (arith, reached.size, x.node) in
    let whole : SuitStarts p (raised arrivals v time) (k + 1) = record {
      each = λ s below inside. elim (cases_eq s k) [
        | inl same ↦ rw same (omega (arith, ints, same_time, number_at-raised_here arrivals v time there))
        | inr other ↦ omega (arith, ints, suited.each s (omega arith) inside, (Rise-raised arrivals v time there).each (start_at p.starts s).node.0)
      ];
    } in
    let P : List ℤ → Type 0 = λ ts. SuitStarts p ts (k + 1) in
    subst P (sym is) whole

pub AreReached-start : (p : Problem) (arrivals after : List ℤ) (k : ℕ) (time : ℤ) → IsSound p → AreReached p arrivals → k < length p.starts
    → time ≡ (start_at p.starts k).offset → after ≡ raised arrivals (start_at p.starts k).node.0 time → AreReached p after
AreReached-start p arrivals after k time sound reached within same_time is =
    subst (AreReached p) (sym is) (AreReached-raised p arrivals _ time (sound_start p k sound within).node reached
    (subst (IsReachedAt p (start_at p.starts k).node.0) (sym same_time) (IsReachedAt-start p k within)))

pub Suit-from_sweep : (p : Problem) (order : List NodeId) (begun arrivals : List ℤ) → IsSound p → Meets p → IsOrder p.nodes p.items order → AreReached p arrivals
    → SuitStarts p begun (length p.starts) → Rise begun arrivals → SuitBefore p order arrivals p.nodes → Suit p (least_of p) (number_at arrivals)
Suit-from_sweep p order begun arrivals sound meets in_order reached starts rise before = record {
  items = λ i within.
      let x = sound_item p i sound within in
      before.each i (in_order.place (item_at p.items i).from.0) within (in_order.placed _ x.from) (sym (in_order.stands _ x.from));
  starts = λ s within. omega (arith, ints, starts.each s within within, rise.each (start_at p.starts s).node.0);
  ends = λ e within.
      let x = sound_end p e sound within in
      IsReachedAt-end p (end_at p.ends e).node.0 (number_at arrivals (end_at p.ends e).node.0) [] e sound meets (reached.reached _ x.node) within refl;
}

pub AreReached-fresh : (p : Problem) (arrivals : List ℤ) → IsSound p → arrivals ≡ replicate (p.nodes + 1) (negsuc 1999999999999) → AreReached p (set arrivals p.nodes (pos 0))
AreReached-fresh p arrivals sound is =
    let size : length arrivals ≡ p.nodes + 1 = ap length is ∙ length-replicate (p.nodes + 1) (negsuc 1999999999999) in
    let each : (v : ℕ) → v < p.nodes → number_at (set arrivals p.nodes (pos 0)) v ≡ negsuc 1999999999999
    = λ v below. get_or-set_other arrivals p.nodes v (pos 0) (pos 0) (λ e. omega arith)
    ∙ ap (λ xs. number_at xs v) is ∙ get_or-replicate (p.nodes + 1) v (negsuc 1999999999999) (pos 0) (omega arith) in
    record {
      size = length-set arrivals p.nodes (pos 0) ∙ size;
      root = get_or-set_same arrivals p.nodes (pos 0) (pos 0) (omega (arith, size));
      early = λ v below. omega (arith, ints, each v below);
      reached = λ v below. subst (IsReachedAt p v) (sym (each v below)) (IsReachedAt-early p v sound below);
    }

-- a sound problem has an order of its nodes, so a search for one doesn't find a ring
pub IsOrder-found : (p : Problem) (found : Bool) (order : List NodeId) (ring : List ItemId) → IsSound p → (found ≡ false → IsCycle p.items ring) → (IsTrue found → IsOrder p.nodes p.items order)
    → IsOrder p.nodes p.items order
IsOrder-found p true order ring sound no_order ordered = ordered refl
IsOrder-found p false order ring sound no_order ordered = absurd (IsCycle-none p.nodes p.items sound.order.0 sound.order.1 ring (no_order refl))
