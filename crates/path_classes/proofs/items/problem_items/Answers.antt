use Rattle.std.proofs.Common.{◌≡◌, ◌<◌, ◌+◌, ◌++◌, [], ◌∷◌, List, length, get_or, take, sym, ◌∙◌, ap, subst, arith, rules}
use Rattle.std.specs.List.{AllZip}
use Rattle.std.proofs.lemmas.List.{take_more, take_all}
use Rattle.std.proofs.lemmas.Slice.Zip.{all_zipped_more}
use Rattle.state_numbers.specs.Placed.{placed_at}
use Rattle.path_classes.specs.Placing.{IsItemAt}
use Rattle.path_classes.proofs.items.problem_items.Goals as goal

pub loop-x-preserved : goal.loop-x-preserved
loop-x-preserved c =
    let x = placed_at c.args.items.now c.loop-x.x-index in
    let taken : take (c.loop-x.x-index + 1) c.args.items.now ≡ take c.loop-x.x-index c.args.items.now ++ x ∷ [] = take_more c.args.items.now c.loop-x.x-index (placed_at [] 0) (omega arith) in
    subst (λ ys. AllZip (IsItemAt c.args.arcs.now c.args.nodes.now) (take (c.loop-x.x-index + 1) c.args.items.now) ys) (sym c.in_ok-push.ensures.items)
    (subst (λ xs. AllZip (IsItemAt c.args.arcs.now c.args.nodes.now) xs (c.loop-x.list.items ++ c.in-Some.item ∷ [])) (sym taken)
    (all_zipped_more (IsItemAt c.args.arcs.now c.args.nodes.now) (take c.loop-x.x-index c.args.items.now) c.loop-x.list.items x c.in-Some.item c.loop-x.invariant c.in-Some.ensures))

pub returns : goal.returns
returns c = subst (λ xs. AllZip (IsItemAt c.args.arcs.now c.args.nodes.now) xs c.loop-x.list.items) (take_all c.loop-x.x-index c.args.items.now (omega arith)) c.loop-x.invariant
