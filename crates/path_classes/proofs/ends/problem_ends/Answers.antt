use Rattle.std.proofs.Common.{◌≡◌, ◌<◌, ◌+◌, ◌++◌, [], ◌∷◌, List, length, None, Some, sym, ◌∙◌, ap, subst, arith, rules, to_z, of_z, w64}
use Rattle.std.proofs.lemmas.Int.{ints}
use Rattle.state_numbers.specs.Placed.{placed_at}
use Rattle.path_classes.specs.Placing.{AreNodeEnds}
use Rattle.path_classes.proofs.EndSteps.{AreNodeEnds-skip, AreNodeEnds-more, end-behind}
use Rattle.path_classes.proofs.TableReads.{read-node-asks}
use Rattle.path_classes.proofs.ends.problem_ends.Goals as goal

pub loop-place-preserved-in_default : goal.loop-place-preserved-in_default
loop-place-preserved-in_default c =
    let below = c.requires.classes c.loop-place.place (placed_at [] 0) (omega arith) in
    AreNodeEnds-skip c.args.all.now c.args.classes.now c.args.nodes.now c.loop-place.place c.loop-place.ends.items
    (read-node-asks c.args.all.now c.args.classes.now c.args.nodes.now c.loop-place.place c.index-classes-x.result c.least_ask-ask.result None c.in_default.is c.least_ask-ask.ensures below
    c.index-classes-x.is) c.loop-place.invariant

pub loop-place-preserved : goal.loop-place-preserved
loop-place-preserved c =
    let below = c.requires.classes c.loop-place.place (placed_at [] 0) (omega arith) in
    let asks = read-node-asks c.args.all.now c.args.classes.now c.args.nodes.now c.loop-place.place c.index-classes-x.result c.least_ask-ask.result (Some c.in-Some.require) c.in-Some.is
    c.least_ask-ask.ensures below c.index-classes-x.is in
    let n : c.in-Ok.number ≡ c.loop-place.place = search rules in
    let v : to_z w64 (of_z w64 c.in-Some.require) ≡ c.in-Some.require = omega (arith, ints) in
    let more = AreNodeEnds-more c.args.all.now c.args.classes.now c.args.nodes.now c.loop-place.place c.loop-place.ends.items c.in-Some.require asks c.loop-place.invariant in
    subst (AreNodeEnds c.args.all.now c.args.classes.now c.args.nodes.now (c.loop-place.place + 1))
    (sym (c.in_ok-push.ensures.items ∙ end-behind c.loop-place.ends.items c.in-Ok.number c.loop-place.place (to_z w64 (of_z w64 c.in-Some.require)) c.in-Some.require n v)) more
