use Rattle.std.proofs.Common.{◌∙◌, ap, sym, Some, None}
use Rattle.module_nets.specs.Judging.{entry_at}
use Rattle.module_nets.specs.declared.faults.ElabFault.TheVariants.{Width}
use Rattle.module_nets.proofs.JudgeSteps.{equal_so, equal_not, found_is}
use Rattle.module_nets.proofs.judging.refuse_width.Goals as goal

pub returns-then-are_equal : goal.returns-then-are_equal
returns-then-are_equal c = equal_so (entry_at c.args.nets.now.«module».now c.args.path.now) c.args.assign.now c.are_equal.result c.are_equal.ensures c.if-are_equal.true

pub returns-in-None : goal.returns-in-None
returns-in-None c =
    let e = entry_at c.args.nets.now.«module».now c.args.path.now in
    equal_not e c.args.assign.now c.are_equal.result c.are_equal.ensures c.if-are_equal.false
    ∙ found_is e c.args.assign.now c.as_slice.result.now None c.as_slice.ensures c.in-None.ensures

pub returns-in_ok-printed_below-in-Some : goal.returns-in_ok-printed_below-in-Some
returns-in_ok-printed_below-in-Some c =
    let e = entry_at c.args.nets.now.«module».now c.args.path.now in
    equal_not e c.args.assign.now c.are_equal.result c.are_equal.ensures c.if-are_equal.false
    ∙ (found_is e c.args.assign.now c.as_slice.result.now (Some c.in-Some.name.now) c.as_slice.ensures c.in-Some.ensures
    ∙ ap (λ t. Some (Width t)) (sym c.in_ok-printed_below-in-Some.ensures.printed))
