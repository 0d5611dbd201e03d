use Rattle.std.proofs.Common.{◌≡◌, ◌<◌, ◌+◌, ◌++◌, [], ◌∷◌, List, None, Some, sym, ◌∙◌, ap, subst, arith, rules}
use Rattle.bud_design.specs.TimingPaths.{launch_at}
use Rattle.path_classes.specs.Placing.{IsStartPlace, AreStarts}
use Rattle.path_classes.proofs.StartSteps.{AreStarts-skip, AreStarts-more, start-behind}
use Rattle.path_classes.proofs.starts.starts_in.Goals as goal

pub loop-place-preserved-in_default : goal.loop-place-preserved-in_default
loop-place-preserved-in_default c =
    let here = subst (λ xs. IsStartPlace c.args.all.now c.args.kinds.now c.args.ranks.now c.args.nodes.now (launch_at xs c.loop-place.place) c.start_place-begin.result) c.as_slice-launches.ensures
    c.start_place-begin.ensures in
    AreStarts-skip c.args.all.now c.args.kinds.now c.args.ranks.now c.args.nodes.now c.loop-place.place c.loop-place.starts.items
    (subst (IsStartPlace c.args.all.now c.args.kinds.now c.args.ranks.now c.args.nodes.now (launch_at c.args.all.now.launches c.loop-place.place)) c.in_default.is here) c.loop-place.invariant

pub loop-place-preserved : goal.loop-place-preserved
loop-place-preserved c =
    let here = subst (λ xs. IsStartPlace c.args.all.now c.args.kinds.now c.args.ranks.now c.args.nodes.now (launch_at xs c.loop-place.place) c.start_place-begin.result) c.as_slice-launches.ensures
    c.start_place-begin.ensures in
    let some = subst (IsStartPlace c.args.all.now c.args.kinds.now c.args.ranks.now c.args.nodes.now (launch_at c.args.all.now.launches c.loop-place.place)) c.in-Some.is here in
    let number : c.in-Ok.number ≡ c.in-Some.node = search rules in
    let with' : c.in-Ok-try_from.with ≡ c.loop-place.place = search rules in
    subst (AreStarts c.args.all.now c.args.kinds.now c.args.ranks.now c.args.nodes.now (c.loop-place.place + 1))
    (sym (c.in_ok-push.ensures.items ∙ start-behind c.loop-place.starts.items c.in-Ok.number c.in-Some.node c.in-Ok-try_from.with c.loop-place.place number with'))
    (AreStarts-more c.args.all.now c.args.kinds.now c.args.ranks.now c.args.nodes.now c.loop-place.place c.in-Some.node c.loop-place.starts.items some c.loop-place.invariant)
