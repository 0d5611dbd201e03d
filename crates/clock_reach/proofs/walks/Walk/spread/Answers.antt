use Rattle.std.proofs.Common.{◌<◌, [], sym, ◌∙◌, ap, subst, arith}
use Rattle.clock_reach.specs.Leaving.{wire_at}
use Rattle.clock_reach.proofs.LeavingLemmas.{IsFirstLeaving, leaving_from-some}
use Rattle.clock_reach.proofs.WalkLemmas.{rest_of, rest_of-next, IsSpreading-more, Spreads-all}
use Rattle.clock_reach.proofs.walks.Walk.spread.Goals as goal
use Rattle.clock_reach.proofs.walks.Walk.spread.Goals.{In-Some}

first : (c : In-Some) → IsFirstLeaving c.args.wires.now c.args.front.pin.0 c.loop-next.invariant.1.low c.in-Some.wire
first c = leaving_from-some _ _ _ _ (sym c.loop-next.invariant.1.from_low ∙ c.in-Some.is)

pub bounds-wires-wire : goal.bounds-wires-wire
bounds-wires-wire c = (first (goal.at.bounds-wires-wire c).In-Some).within

pub next-next-requires : goal.next-next-requires
next-next-requires c = omega (arith, (first (goal.at.next-next-requires c).In-Some).within, c.requires.fanout.room)

pub loop-next-smaller : goal.loop-next-smaller
loop-next-smaller c =
    let here = first (goal.at.loop-next-smaller c).In-Some in
    subst (λ k. rest_of c.args.wires.now c.next-next.result < k) (sym (ap (rest_of c.args.wires.now) c.in-Some.is))
    (rest_of-next _ _ _ here.within (c.next-next.ensures ∙ c.requires.fanout.next _ here.within))

pub loop-next-preserved : goal.loop-next-preserved
loop-next-preserved c =
    let here = first (goal.at.loop-next-preserved c).In-Some in
    let within = (c.requires.wires c.in-Some.wire (wire_at [] 0) here.within).to in
    let more = IsSpreading-more _ _ c.in-Some.wire _ _ _ _ _ _ _ _ c.in-Some.is (omega (arith, within, c.loop-next.invariant.0))
    (c.next-next.ensures ∙ c.requires.fanout.next _ here.within) c.in_ok-enter.ensures c.loop-next.invariant.1 in
    (more.spreads.size, more)

pub returns : goal.returns
returns c = Spreads-all _ _ _ _ _ _ _ c.in_default.is c.loop-next.invariant.1
