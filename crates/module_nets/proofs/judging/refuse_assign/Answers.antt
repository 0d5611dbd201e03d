use Rattle.std.proofs.Common.{◌++◌}
use Rattle.std.proofs.lemmas.Result.{err_from_is_err_and}
use Rattle.module_nets.specs.Entering.{select_fault, assign_width}
use Rattle.module_nets.specs.Judging.{entry_at}
use Rattle.module_nets.proofs.Refusing.{answers_later, refusal_first}
use Rattle.module_nets.proofs.judging.refuse_assign.Goals as goal

pub returns-in_err-refuse_selects : goal.returns-in_err-refuse_selects
returns-in_err-refuse_selects c =
    let e = entry_at c.args.nets.now.«module».now c.args.path.now in
    let p = err_from_is_err_and c.from_residual.result c.from_residual.ensures.1 in
    rw (p.1, p.2)
    (refusal_first (select_fault e (c.args.assign.now.left ++ c.args.assign.now.right)) (assign_width e c.args.assign.now) c.in_err-refuse_selects.field-0.0 c.in_err-refuse_selects.ensures)

pub returns : goal.returns
returns c =
    let e = entry_at c.args.nets.now.«module».now c.args.path.now in
    answers_later (select_fault e (c.args.assign.now.left ++ c.args.assign.now.right)) (assign_width e c.args.assign.now) c.refuse_width.result c.in_ok-refuse_selects.ensures c.refuse_width.ensures
