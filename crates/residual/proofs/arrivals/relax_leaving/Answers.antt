use Rattle.std.proofs.Common.{◌≡◌, ◌<◌, ◌+ℤ◌, List, sym, ◌∙◌, ap, subst, arith, length}
use Rattle.bud_base.specs.Paths.{item_at}
use Rattle.bud_base.specs.declared.problems.Item.{Item}
use Rattle.bud_base.proofs.Trials.{rest_of, rest_of-next}
use Rattle.bud_flow.specs.Sums.{number_at}
use Rattle.residual.specs.Sweeps.{raised}
use Rattle.residual.proofs.Sweeping.{IsNextItem, IsNextItem-from_relaxed, AreRelaxed-more, SuitBefore-more, AreReached-within, sound_item}
use Rattle.residual.proofs.arrivals.relax_leaving.Goals as goal
use Rattle.residual.proofs.arrivals.relax_leaving.Goals.{In-Some}

next : (c : In-Some) → IsNextItem c.args.problem.now c.args.order.now c.args.place c.in-Some.item.0
next c = IsNextItem-from_relaxed _ _ _ _ _ _ _ c.in-Some.is c.loop-next.invariant

pub bounds-items-item : goal.bounds-items-item
bounds-items-item c =
    let P : List Item → Type 0 = λ xs. c.in-Some.item.0 < length xs in
    subst P (sym c.as_slice-items.ensures) (next (goal.at.bounds-items-item c).In-Some).within

pub relax-requires-clause-arrival : goal.relax-requires-clause-arrival
relax-requires-clause-arrival c =
    let here = next (goal.at.relax-requires-clause-arrival c).In-Some in
    rw c.as_slice-items.ensures
    (AreReached-within _ _ _ c.requires.sound c.requires.meets c.loop-next.invariant.reached (sound_item _ _ c.requires.sound here.within).from)

pub next-next-requires : goal.next-next-requires
next-next-requires c = omega (arith, (next (goal.at.next-next-requires c).In-Some).within, c.requires.links.room)

pub loop-next-smaller : goal.loop-next-smaller
loop-next-smaller c =
    let here = next (goal.at.loop-next-smaller c).In-Some in
    subst (λ k. rest_of c.args.problem.now.items c.next-next.result < k) (sym (ap (rest_of c.args.problem.now.items) c.in-Some.is))
    (rest_of-next _ _ _ _ here.within (c.next-next.ensures ∙ c.requires.links.next _ here.within))

pub loop-next-preserved : goal.loop-next-preserved
loop-next-preserved c =
    let here = next (goal.at.loop-next-preserved c).In-Some in
    let is_relaxed : c.relax.new.arrivals ≡ raised c.loop-next.arrivals (item_at c.args.problem.now.items c.in-Some.item.0).to.0
    (number_at c.loop-next.arrivals (item_at c.args.problem.now.items c.in-Some.item.0).from.0 +ℤ (item_at c.args.problem.now.items c.in-Some.item.0).least)
    = rw c.as_slice-items.ensures at c.relax.ensures in
    AreRelaxed-more _ _ _ _ _ _ _ _ _ c.requires.sound c.requires.order c.requires.place c.in-Some.is (c.next-next.ensures ∙ c.requires.links.next _ here.within) c.loop-next.invariant is_relaxed

pub returns-clause-before : goal.returns-clause-before
returns-clause-before c = SuitBefore-more _ _ _ _ _ _ c.in_default.is c.loop-next.invariant
