use Rattle.std.proofs.Common.{◌<◌, [], refl, sym, ◌∙◌, ap, subst, arith}
use Rattle.std.proofs.lemmas.Bool.{false≢true}
use Rattle.bud_base.specs.Paths.{item_at}
use Rattle.bud_base.proofs.LeavingLemmas.{IsFirstLeaving, leaving_from-some}
use Rattle.bud_base.proofs.Trials.{rest_of, rest_of-next}
use Rattle.bud_base.proofs.MarkLemmas.{IsSeekingMark-more, LeadsToMarked-none, LeadsToMarked-here}
use Rattle.live_states.proofs.leading.leads_to_marked.Goals as goal
use Rattle.live_states.proofs.leading.leads_to_marked.Goals.{In-Some}

first : (c : In-Some) → IsFirstLeaving c.args.items.now c.args.node.0 c.loop-next.invariant.low c.in-Some.item.0
first c = leaving_from-some _ _ _ _ (sym c.loop-next.invariant.from_low ∙ c.in-Some.is)

pub bounds-items-item : goal.bounds-items-item
bounds-items-item c = (first (goal.at.bounds-items-item c).In-Some).within

pub bounds-marks-head : goal.bounds-marks-head
bounds-marks-head c =
    let within = (c.requires.within c.in-Some.item.0 (item_at [] 0) (first (goal.at.bounds-marks-head c).In-Some).within).to in
    omega (arith, within)

pub next-next-requires : goal.next-next-requires
next-next-requires c = omega (arith, (first (goal.at.next-next-requires c).In-Some).within, c.requires.links.room)

pub loop-next-smaller : goal.loop-next-smaller
loop-next-smaller c =
    let here = first (goal.at.loop-next-smaller c).In-Some in
    subst (λ k. rest_of c.args.items.now c.next-next.result < k) (sym (ap (rest_of c.args.items.now) c.in-Some.is))
    (rest_of-next _ _ _ _ here.within (c.next-next.ensures ∙ c.requires.links.next _ here.within))

pub returns-then-marks-head : goal.returns-then-marks-head
returns-then-marks-head c = (λ yes. LeadsToMarked-here _ _ _ _ _ c.in-Some.is c.if-marks-head.true c.loop-next.invariant, λ leads. refl)

pub loop-next-preserved : goal.loop-next-preserved
loop-next-preserved c =
    let here = first (goal.at.loop-next-preserved c).In-Some in
    IsSeekingMark-more _ _ _ c.in-Some.item _ _ c.in-Some.is c.if-marks-head.false (c.next-next.ensures ∙ c.requires.links.next _ here.within) c.loop-next.invariant

pub returns : goal.returns
returns c = (λ wrong. absurd (false≢true wrong), λ leads. absurd (LeadsToMarked-none _ _ _ _ c.in_default.is c.loop-next.invariant leads))
