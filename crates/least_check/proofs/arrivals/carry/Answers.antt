use Rattle.std.proofs.Common.{◌≡◌, arith, refl, ◌∙◌, None}
use Rattle.std.proofs.lemmas.Int.{ints}
use Rattle.bud_base.specs.Orders.{node_at}
use Rattle.least_check.specs.Arrivals.{arrival_at}
use Rattle.least_check.proofs.ArrivalSteps.{is_none}
use Rattle.least_check.proofs.CarrySteps.{IsCarrying-item, IsCarrying-more, IsCarrying-last, IsSweep-next, items_left-less}
use Rattle.least_check.proofs.arrivals.carry.Goals as goal

pub returns-in_default : goal.returns-in_default
returns-in_default c =
    let none : arrival_at c.args.arrivals.now (node_at c.args.order.now c.args.place) ≡ None = is_none _ c.in_default.not-Some in
    record { swept = IsSweep-next _ _ _ _ c.requires.sound c.requires.swept (λ i within leaves t arrives. absurd (rw (leaves, none) at arrives)) }

pub bounds-items-number : goal.bounds-items-number
bounds-items-number c =
    let next = IsCarrying-item _ _ _ _ _ _ (rw c.in-Some-next.is at c.loop-next.invariant) in
    rw c.as_slice-items.ensures next.within

pub overflow_add-onward : goal.overflow_add-onward
overflow_add-onward c =
    let next = IsCarrying-item _ _ _ _ _ _ (rw c.in-Some-next.is at c.loop-next.invariant) in
    rw c.as_slice-items.ensures (omega (arith, ints, next.low, next.high, next.sound.low, next.sound.between, next.sound.high))

pub arrive-requires : goal.arrive-requires
arrive-requires c =
    let next = IsCarrying-item _ _ _ _ _ _ (rw c.in-Some-next.is at c.loop-next.invariant) in
    rw c.as_slice-items.ensures next.there

pub next-next-requires : goal.next-next-requires
next-next-requires c =
    let next = IsCarrying-item _ _ _ _ _ _ (rw c.in-Some-next.is at c.loop-next.invariant) in
    omega (arith, next.within, c.requires.links.room)

pub loop-next-smaller : goal.loop-next-smaller
loop-next-smaller c =
    let next = IsCarrying-item _ _ _ _ _ _ (rw c.in-Some-next.is at c.loop-next.invariant) in
    rw c.in-Some-next.is (items_left-less _ _ _ _ next.within (c.next-next.ensures ∙ c.requires.links.next _ next.within))

pub loop-next-preserved : goal.loop-next-preserved
loop-next-preserved c =
    let carrying = rw c.in-Some-next.is at c.loop-next.invariant in
    let next = IsCarrying-item _ _ _ _ _ _ carrying in
    rw (c.arrive.ensures, c.as_slice-items.ensures)
    (IsCarrying-more _ _ _ _ _ _ _ _ (omega (arith, ints, next.low, next.high, next.sound.low, next.sound.between, next.sound.high)) refl
    (c.next-next.ensures ∙ c.requires.links.next _ next.within) carrying)

pub returns : goal.returns
returns c = record { swept = IsCarrying-last _ _ _ _ _ (rw (is_none _ c.in_default-next.not-Some) at c.loop-next.invariant) }
