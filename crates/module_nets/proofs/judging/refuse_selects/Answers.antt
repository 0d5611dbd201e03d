use Rattle.std.proofs.Common.{◌∙◌, ◌++◌, ap, sym}
use Rattle.std.specs.Option.{option_or}
use Rattle.std.proofs.lemmas.Result.{err_from_is_err_and}
use Rattle.module_nets.specs.Entering.{select_fault}
use Rattle.module_nets.specs.Judging.{entry_at}
use Rattle.module_nets.proofs.Refusing.{answers_as, answers_later, refusal_as, refusal_first}
use Rattle.module_nets.proofs.JudgeSteps.{selects_split}
use Rattle.module_nets.proofs.judging.refuse_selects.Goals as goal

pub returns-in_err-refuse_select : goal.returns-in_err-refuse_select
returns-in_err-refuse_select c =
    let e = entry_at c.args.nets.now.«module».now c.args.path.now in
    let left = c.args.assign.now.left in
    let right = c.args.assign.now.right in
    let p = err_from_is_err_and c.from_residual.result c.from_residual.ensures.1 in
    rw (p.1, p.2)
    (refusal_as (select_fault e (left ++ right)) (option_or (select_fault e left) (select_fault e right)) c.in_err-refuse_select.field-0.0 (selects_split e left right)
    (refusal_first (select_fault e left) (select_fault e right) c.in_err-refuse_select.field-0.0
    (refusal_as (select_fault e left) (select_fault e c.as_slice.result.now) c.in_err-refuse_select.field-0.0 (ap (select_fault e) (sym c.as_slice.ensures)) c.in_err-refuse_select.ensures)))

pub returns : goal.returns
returns c =
    let e = entry_at c.args.nets.now.«module».now c.args.path.now in
    let left = c.args.assign.now.left in
    let right = c.args.assign.now.right in
    answers_as (select_fault e (left ++ right)) (option_or (select_fault e left) (select_fault e right)) c.refuse_select-2.result (selects_split e left right)
    (answers_later (select_fault e left) (select_fault e right) c.refuse_select-2.result (ap (select_fault e) (sym c.as_slice.ensures) ∙ c.in_ok-refuse_select.ensures)
    (answers_as (select_fault e right) (select_fault e c.as_slice-2.result.now) c.refuse_select-2.result (ap (select_fault e) (sym c.as_slice-2.ensures)) c.refuse_select-2.ensures))
