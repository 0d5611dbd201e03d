use Rattle.std.proofs.Common.{◌<◌, sym, ap, ◌∙◌, subst, arith}
use Rattle.bud_base.proofs.Trials.{rest_of, rest_of-next}
use Rattle.path_states.proofs.ExploringSteps.{IsTaking-found, IsTaking-more, IsExploring-taken}
use Rattle.path_states.proofs.exploring.take.Goals as goal

pub follow-requires-clause-state : goal.follow-requires-clause-state
follow-requires-clause-state c =
    let first = IsTaking-found _ _ _ _ _ _ c.in-Some.arc c.in-Some.is c.loop-next.invariant in
    let exploring = c.loop-next.invariant.exploring in
    record {
      lists = exploring.states.lists;
      state = c.loop-next.invariant.here;
      within = first.within;
      leaves = first.leaves;
      launch = exploring.waiting c.args.done (omega arith) c.loop-next.invariant.here;
      latest = exploring.latest;
    }

pub follow-requires-clause-pin : goal.follow-requires-clause-pin
follow-requires-clause-pin c =
    let first = IsTaking-found _ _ _ _ _ _ c.in-Some.arc c.in-Some.is c.loop-next.invariant in
    omega (arith, c.requires.pins.to c.in-Some.arc.0 first.within, c.requires.pin_marks)

pub loop-next-smaller : goal.loop-next-smaller
loop-next-smaller c =
    let first = IsTaking-found _ _ _ _ _ _ c.in-Some.arc c.in-Some.is c.loop-next.invariant in
    subst (λ k. rest_of c.args.arcs.now c.next-next.result < k) (sym (ap (rest_of c.args.arcs.now) c.in-Some.is))
    (rest_of-next _ _ _ _ first.within (c.next-next.ensures ∙ c.requires.links.next _ first.within))

pub loop-next-preserved : goal.loop-next-preserved
loop-next-preserved c =
    let first = IsTaking-found _ _ _ _ _ _ c.in-Some.arc c.in-Some.is c.loop-next.invariant in
    IsTaking-more _ _ _ _ _ _ _ c.in-Some.arc _ c.in-Some.is (c.next-next.ensures ∙ c.requires.links.next _ first.within) c.in_ok-follow.ensures c.loop-next.invariant

pub returns : goal.returns
returns c = IsExploring-taken _ _ _ _ _ c.loop-next.next c.in_default.is c.loop-next.invariant
