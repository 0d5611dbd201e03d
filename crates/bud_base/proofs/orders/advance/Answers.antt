use Rattle.std.proofs.Common.{◌<◌, sym, ◌∙◌, ap, subst, arith}
use Rattle.bud_base.specs.Searches.{IsPlaced}
use Rattle.bud_base.proofs.Trials.{IsNext, IsNext-from_top, IsTop-more, AreTried-from_top, rest_of, rest_of-next}
use Rattle.bud_base.proofs.orders.advance.Goals as goal
use Rattle.bud_base.proofs.orders.advance.Goals.{In-Some}

next : (c : In-Some) → IsNext c.args.items.now c.args.marks.now c.args.top.node.0 c.in-Some.item.0
next c = IsNext-from_top _ _ _ _ _ c.in-Some.is c.loop-next.invariant

pub bounds-items-item : goal.bounds-items-item
bounds-items-item c = (next (goal.at.bounds-items-item c).In-Some).within

pub returns-in-New : goal.returns-in-New
returns-in-New c =
    let here = next (goal.at.returns-in-New c).In-Some in
    (record { within = here.within; leaves = here.leaves; head = c.in-New.is }, here.tried)

pub returns-in-Open : goal.returns-in-Open
returns-in-Open c =
    let here = next (goal.at.returns-in-Open c).In-Some in
    record { within = here.within; leaves = here.leaves; head = c.in-Open.is }

pub next-next-requires : goal.next-next-requires
next-next-requires c = omega (arith, (next (goal.at.next-next-requires c).In-Some).within, c.requires.links.room)

pub loop-next-smaller : goal.loop-next-smaller
loop-next-smaller c =
    let here = next (goal.at.loop-next-smaller c).In-Some in
    subst (λ k. rest_of c.args.items.now c.next-next.result < k) (sym (ap (rest_of c.args.items.now) c.in-Some.is))
    (rest_of-next _ _ _ _ here.within (c.next-next.ensures ∙ c.requires.links.next _ here.within))

pub loop-next-preserved : goal.loop-next-preserved
loop-next-preserved c =
    let here = next (goal.at.loop-next-preserved c).In-Some in
    IsTop-more _ _ _ _ _ here (subst IsPlaced (sym c.in-Placed.is) tt) (c.next-next.ensures ∙ c.requires.links.next _ here.within)

pub returns : goal.returns
returns c = AreTried-from_top _ _ _ _ c.in_default.is c.loop-next.invariant
