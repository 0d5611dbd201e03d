use Rattle.std.proofs.Common.{refl}
use Rattle.bud_base.proofs.RangeLemmas.{first_bad_node-parts}
use Rattle.bud_base.proofs.ranges.bad_node.Goals as goal

pub returns-in-Some : goal.returns-in-Some
returns-in-Some c = first_bad_node-parts c.args.problem.now _ _ _ _ _ _ c.as_slice.ensures refl refl c.in-Some.ensures refl refl

pub returns-in-Some-bad_start_node : goal.returns-in-Some-bad_start_node
returns-in-Some-bad_start_node c =
    first_bad_node-parts c.args.problem.now _ _ _ _ _ _ c.as_slice.ensures c.as_slice-2.ensures refl c.in_default.ensures c.in-Some-bad_start_node.ensures refl

pub returns : goal.returns
returns c =
    first_bad_node-parts c.args.problem.now _ _ _ _ _ _ c.as_slice.ensures c.as_slice-2.ensures c.as_slice-3.ensures c.in_default.ensures c.in_default-bad_start_node.ensures
    c.bad_end_node.ensures
