-- Arrivals carried on over the items that leave a node.
use Rattle.std.proofs.Common.{[], negsuc, ◌-◌, ◌≡◌, ◌≢◌, ℕ, ℤ, pos, ◌+◌, ◌*◌, ◌+ℤ◌, ◌<◌, ◌≤◌, ◌≤ℤ◌, List, length, get_or, Option, Some, None, arith, refl, sym, ap, ◌∙◌, inl, inr, subst, IfSome}
use Rattle.std.proofs.lemmas.Bool.{cases_eq, cases_lt}
use Rattle.std.proofs.lemmas.Int.{ints}
use Rattle.std.proofs.lemmas.Option.{IfSome_then}
use Rattle.std.proofs.Math.ListN.{length-set}
use Rattle.std.specs.Option.{option_map_or}
use Rattle.bud_base.specs.Paths.{item_at}
use Rattle.bud_base.specs.Orders.{node_at, IsOrder}
use Rattle.bud_base.specs.Leaving.{leaving_from}
use Rattle.bud_base.specs.Soundness.{IsSound, IsSoundItem}
use Rattle.bud_base.specs.declared.ids.NodeId.{NodeId}
use Rattle.bud_base.specs.declared.ids.ItemId.{ItemId}
use Rattle.bud_base.specs.declared.problems.Item.{Item}
use Rattle.bud_base.specs.declared.problems.Problem.{Problem}
use Rattle.bud_base.proofs.LeavingLemmas.{leaving_from-some, leaving_from-none}
use Rattle.least_check.specs.Arrivals.{arrival_at, later, ArrivesFrom, IsBetween, IsCarried, IsCause, IsSweep, IsSwept, IsStartCause, AreOfStarts}
use Rattle.least_check.specs.declared.arrivals.Arrival.{Arrival}
use Rattle.least_check.specs.declared.arrivals.Cause.{Cause}
use Rattle.least_check.specs.declared.arrivals.Cause.TheVariants.{OfStart, OfItem}
use Rattle.least_check.proofs.ArrivalSteps.{arrived, arrived-other, arrived-held, arrived-new, arrived-each}

-- the arrivals stay at the nodes up to a place of the order
abbrev pub StaysUpTo : (ℕ → ℕ) → ℕ → List (Option Arrival) → List (Option Arrival) → Type 0
StaysUpTo place reach old new = (n : ℕ) → place n ≤ reach → arrival_at new n ≡ arrival_at old n

IsCause-stays : (p : Problem) (place : ℕ → ℕ) (reach : ℕ) (old new : List (Option Arrival)) → StaysUpTo place reach old new
    → (n : ℕ) (t : ℤ) (cause : Cause) → IsCause p place reach old n t cause → IsCause p place reach new n t cause
IsCause-stays p place reach old new stays n t (OfStart s) is_cause = is_cause
IsCause-stays p place reach old new stays n t (OfItem i) is_cause = record {
  within = is_cause.within;
  node = is_cause.node;
  before = is_cause.before;
  sum = rw (stays (item_at p.items i.0).from.0 is_cause.before) is_cause.sum;
}

IsCause-further : (p : Problem) (place : ℕ → ℕ) (reach : ℕ) (arrivals : List (Option Arrival)) (n : ℕ) (t : ℤ) (cause : Cause)
    → IsCause p place reach arrivals n t cause → IsCause p place (reach + 1) arrivals n t cause
IsCause-further p place reach arrivals n t (OfStart s) is_cause = is_cause
IsCause-further p place reach arrivals n t (OfItem i) is_cause = record {
  within = is_cause.within;
  node = is_cause.node;
  before = omega (arith, is_cause.before);
  sum = is_cause.sum;
}

-- a node is done once every item that leaves it is carried
pub IsSweep-next : (p : Problem) (order : List NodeId) (place : ℕ) (arrivals : List (Option Arrival)) → IsSound p → IsSweep p order place arrivals
    → ((i : ℕ) → i < length p.items → (item_at p.items i).from.0 ≡ node_at order place → IsCarried p arrivals i)
    → IsSweep p order (place + 1) arrivals
IsSweep-next p order place arrivals sound sweep here = record {
  is_order = sweep.is_order;
  room = sweep.room;
  started = sweep.started;
  carried = λ i inside before. elim (cases_eq (sweep.is_order.place (item_at p.items i).from.0) place) [
    | inl same ↦ here i inside (sym (sweep.is_order.stands (item_at p.items i).from.0 (sound.items i (item_at [] 0) inside).from) ∙ ap (node_at order) same)
    | inr other ↦ sweep.carried i inside (omega arith)
  ];
  caused = λ n. IfSome_then (arrival_at arrivals n) (sweep.caused n) (λ a. IsCause-further p sweep.is_order.place place arrivals n a.time a.cause);
  bounded = sweep.bounded;
}

-- the arrival at the node of this place is carried on over its items up to the following one
pub record IsCarrying (p : Problem) (order : List NodeId) (place : ℕ) (held : Arrival) (following : Option ItemId) (arrivals : List (Option Arrival)) : Type 0 where
  pub sound : IsSound p
  pub inside : place < p.nodes
  pub sweep : IsSweep p order place arrivals
  pub stays : arrival_at arrivals (node_at order place) ≡ Some held
  pub low : ℕ
  pub next : following ≡ leaving_from p.items (node_at order place) low
  pub carried : (i : ℕ) → i < low → i < length p.items → (item_at p.items i).from.0 ≡ node_at order place → IsCarried p arrivals i

pub IsCarrying-last : (p : Problem) (order : List NodeId) (place : ℕ) (held : Arrival) (arrivals : List (Option Arrival)) → IsCarrying p order place held None arrivals
    → IsSweep p order (place + 1) arrivals
IsCarrying-last p order place held arrivals carrying = IsSweep-next p order place arrivals carrying.sound carrying.sweep
    (λ i inside leaves. elim (cases_lt i carrying.low) [
      | inl below ↦ carrying.carried i below inside leaves
      | inr above ↦ absurd (leaving_from-none p.items (node_at order place) carrying.low (sym carrying.next) i above inside leaves)
    ])

IsCarried-arrived : (p : Problem) (arrivals : List (Option Arrival)) (n : ℕ) (new : Arrival) (i : ℕ) → n < length arrivals → (item_at p.items i).from.0 ≢ n
    → IsCarried p arrivals i → IsCarried p (arrived arrivals n new) i
IsCarried-arrived p arrivals n new i there other carried = λ t from.
    arrived-held arrivals n new there (item_at p.items i).to.0 (t +ℤ (item_at p.items i).least)
    (carried t (subst (ArrivesFrom t) (arrived-other arrivals n new (item_at p.items i).from.0 other) from))

-- the item that brings the new arrival is carried
IsCarried-now : (p : Problem) (arrivals : List (Option Arrival)) (held new : Arrival) (i : ℕ) → (item_at p.items i).to.0 < length arrivals
    → (item_at p.items i).from.0 ≢ (item_at p.items i).to.0 → arrival_at arrivals (item_at p.items i).from.0 ≡ Some held
    → held.time +ℤ (item_at p.items i).least ≡ new.time → IsCarried p (arrived arrivals (item_at p.items i).to.0 new) i
IsCarried-now p arrivals held new i there other stays sum = λ t from.
    let early : t ≤ℤ held.time = subst (ArrivesFrom t) (arrived-other arrivals (item_at p.items i).to.0 new (item_at p.items i).from.0 other ∙ stays) from in
    arrived-new arrivals (item_at p.items i).to.0 new (t +ℤ (item_at p.items i).least) there (omega (arith, ints))

-- what carrying over the next item needs
pub record IsNextItem (p : Problem) (node : ℕ) (held : Arrival) (number : ℕ) (arrivals : List (Option Arrival)) : Type 0 where
  pub within : number < length p.items
  pub leaves : (item_at p.items number).from.0 ≡ node
  pub sound : IsSoundItem p.nodes (item_at p.items number)
  pub there : (item_at p.items number).to.0 < length arrivals
  pub low : negsuc 1999999999999 ≤ℤ held.time
  pub high : held.time ≤ℤ pos 16779216000000000

pub IsCarrying-item : (p : Problem) (order : List NodeId) (place number : ℕ) (held : Arrival) (arrivals : List (Option Arrival))
    → IsCarrying p order place held (Some (record { 0 = number })) arrivals → IsNextItem p (node_at order place) held number arrivals
IsCarrying-item p order place number held arrivals carrying =
    let first = leaving_from-some p.items (node_at order place) carrying.low (record { 0 = number }) (sym carrying.next) in
    let item : IsSoundItem p.nodes (item_at p.items number) = carrying.sound.items number (item_at [] 0) first.within in
    let P : Option Arrival → Type 0 = λ o. IfSome o (IsBetween (pos (2000000000000 + 2000000000 * carrying.sweep.is_order.place (node_at order place)))) in
    let bounds = subst P carrying.stays (carrying.sweep.bounded (node_at order place)) in
    record {
      within = first.within;
      leaves = first.leaves;
      sound = item;
      there = omega (arith, item.to, carrying.sweep.room);
      low = bounds.0;
      high = omega (arith, ints, bounds.1, carrying.sweep.is_order.at_place place carrying.inside, carrying.inside, carrying.sound.limits.nodes);
    }

-- one item more brings a new arrival
pub IsCarrying-more : (p : Problem) (order : List NodeId) (place number : ℕ) (held new : Arrival) (following : Option ItemId) (arrivals : List (Option Arrival))
    → held.time +ℤ (item_at p.items number).least ≡ new.time → new.cause ≡ OfItem (record { 0 = number })
    → following ≡ leaving_from p.items (item_at p.items number).from.0 (number + 1)
    → IsCarrying p order place held (Some (record { 0 = number })) arrivals
    → IsCarrying p order place held following (arrived arrivals (item_at p.items number).to.0 new)
IsCarrying-more p order place number held new following arrivals sum cause next carrying =
    let inside = carrying.inside in
    let sound : IsSoundItem p.nodes (item_at p.items number) = (IsCarrying-item p order place number held arrivals carrying).sound in
    let first = leaving_from-some p.items (node_at order place) carrying.low (record { 0 = number }) (sym carrying.next) in
    let sweep = carrying.sweep in
    let target : ℕ = (item_at p.items number).to.0 in
    let at_place : sweep.is_order.place (item_at p.items number).from.0 ≡ place = rw first.leaves (sweep.is_order.at_place place inside) in
    let later_on : place < sweep.is_order.place target = rw at_place at (sweep.is_order.follows number first.within) in
    let there : target < length arrivals = omega (arith, sound.to, sweep.room) in
    let apart : (m : ℕ) → sweep.is_order.place m ≤ place → m ≢ target = λ m before same. absurd (omega (arith, ap sweep.is_order.place same)) in
    let stays : StaysUpTo sweep.is_order.place place arrivals (arrived arrivals target new) = λ m before. arrived-other arrivals target new m (apart m before) in
    let begins : arrival_at arrivals (item_at p.items number).from.0 ≡ Some held = rw first.leaves carrying.stays in
    record {
      sound = carrying.sound;
      inside = inside;
      sweep = record {
        is_order = sweep.is_order;
        room = omega (arith, sweep.room, length-set arrivals target (Some (later (get_or arrivals target None) new)));
        started = λ s below. arrived-held arrivals target new there _ _ (sweep.started s below);
        carried = λ i within before. IsCarried-arrived p arrivals target new i there (apart _ (omega arith)) (sweep.carried i within before);
        caused = arrived-each (λ m a. IsCause p sweep.is_order.place place (arrived arrivals target new) m a.time a.cause) arrivals target new there
            (λ m. IfSome_then (arrival_at arrivals m) (sweep.caused m)
            (λ a. IsCause-stays p sweep.is_order.place place arrivals (arrived arrivals target new) stays m a.time a.cause))
            (subst (IsCause p sweep.is_order.place place (arrived arrivals target new) target new.time) (sym cause) (record {
              within = first.within;
              node = refl;
              before = omega arith;
              sum = rw (stays (item_at p.items number).from.0 (omega arith), begins) sum;
            }));
        bounded = arrived-each (λ m. IsBetween (pos (2000000000000 + 2000000000 * sweep.is_order.place m))) arrivals target new there sweep.bounded
            (let P : Option Arrival → Type 0 = λ o. IfSome o (IsBetween (pos (2000000000000 + 2000000000 * sweep.is_order.place (item_at p.items number).from.0))) in
            let bounds = subst P begins (sweep.bounded (item_at p.items number).from.0) in
            (omega (arith, ints, bounds.0, sound.low), omega (arith, ints, bounds.1, sound.between, sound.high)));
      };
      stays = rw (stays (node_at order place) (omega (arith, sweep.is_order.at_place place inside))) carrying.stays;
      low = number + 1;
      next = rw (← first.leaves) next;
      carried = λ i below within leaves. elim (cases_eq i number) [
        | inl same ↦ rw same (IsCarried-now p arrivals held new number there (apart _ (omega arith)) begins sum)
        | inr other ↦ IsCarried-arrived p arrivals target new i there (apart _ (omega (arith, ap sweep.is_order.place leaves, sweep.is_order.at_place place inside)))
            (elim (cases_lt i carrying.low) [
              | inl early ↦ carrying.carried i early within leaves
              | inr late ↦ absurd (first.between i late (omega arith) leaves)
            ])
      ];
    }

-- how many items are left from the following one on
abbrev pub items_left : List Item → Option ItemId → ℕ
items_left items following = option_map_or (λ (i : ItemId). length items - i.0) following 0

pub items_left-less : (items : List Item) (node number : ℕ) (following : Option ItemId) → number < length items → following ≡ leaving_from items node (number + 1)
    → items_left items following < length items - number
items_left-less items node number None within next = omega arith
items_left-less items node number (Some i) within next =
    let first = leaving_from-some items node (number + 1) i (sym next) in
    omega (arith, first.above, first.within)

IsCause-of_start : (p : Problem) (place : ℕ → ℕ) (arrivals : List (Option Arrival)) (n : ℕ) (t : ℤ) (cause : Cause) → IsStartCause p n t cause → IsCause p place 0 arrivals n t cause
IsCause-of_start p place arrivals n t (OfStart s) is_cause = is_cause
IsCause-of_start p place arrivals n t (OfItem i) is_cause = absurd is_cause

-- the sweep begins with the arrivals of the starts
pub IsSweep-begin : (p : Problem) (order : List NodeId) (arrivals : List (Option Arrival)) → IsOrder p.nodes p.items order → AreOfStarts p (length p.starts) arrivals
    → IsSweep p order 0 arrivals
IsSweep-begin p order arrivals is_order begun = record {
  is_order = is_order;
  room = begun.room;
  started = begun.started;
  carried = λ i within before. absurd (omega arith);
  caused = λ n. IfSome_then (arrival_at arrivals n) (begun.caused n) (λ a. IsCause-of_start p is_order.place arrivals n a.time a.cause);
  bounded = λ n. IfSome_then (arrival_at arrivals n) (begun.bounded n) (λ a bounds. (bounds.0, omega (arith, ints, bounds.1)));
}

-- no arrival passes what the items of a longest path can add up to
pub IsSwept-between : (p : Problem) (arrivals : List (Option Arrival)) (n : ℕ) (a : Arrival) → IsSwept p arrivals → n < p.nodes → arrival_at arrivals n ≡ Some a
    → IsBetween (pos (2000000000000 + 2000000000 * p.nodes)) a
IsSwept-between p arrivals n a swept inside is =
    let P : Option Arrival → Type 0 = λ o. IfSome o (IsBetween (pos (2000000000000 + 2000000000 * swept.sweep.is_order.place n))) in
    let bounds = subst P is (swept.sweep.bounded n) in
    (bounds.0, omega (arith, ints, bounds.1, swept.sweep.is_order.placed n inside))
