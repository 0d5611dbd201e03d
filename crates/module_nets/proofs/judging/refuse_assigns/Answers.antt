use Rattle.std.proofs.Common.{◌∙◌, ◌+◌, ap, drop}
use Rattle.std.specs.Option.{option_or}
use Rattle.std.proofs.lemmas.Result.{err_from_is_err_and}
use Rattle.bud_design.specs.Lists.{first_some}
use Rattle.module_nets.specs.Entering.{assign_fault}
use Rattle.module_nets.specs.Judging.{entry_at}
use Rattle.module_nets.proofs.Refusing.{some_on_slice, refusal_as, refusal_first}
use Rattle.module_nets.proofs.judging.refuse_assigns.Goals as goal

pub returns-in_err-refuse_assign : goal.returns-in_err-refuse_assign
returns-in_err-refuse_assign c =
    let f = assign_fault (entry_at c.args.nets.now.«module».now c.args.path.now) in
    let xs = c.args.nets.now.«module».now.assigns in
    let i = c.loop-assign.assign-index in
    let x = c.assign-item.result in
    let fault = c.in_err-refuse_assign.field-0.0 in
    let p = err_from_is_err_and c.from_residual.result c.from_residual.ensures.1 in
    rw (p.1, p.2)
    (refusal_as (first_some f xs) (option_or (f x) (first_some f (drop (i + 1) xs))) fault
    (some_on_slice f xs c.as_slice-assign-items.result.now i x c.as_slice-assign-items.ensures c.loop-assign-test.true c.assign-item.is c.loop-assign.invariant)
    (refusal_first (f x) (first_some f (drop (i + 1) xs)) fault c.in_err-refuse_assign.ensures))

pub loop-assign-preserved : goal.loop-assign-preserved
loop-assign-preserved c =
    let f = assign_fault (entry_at c.args.nets.now.«module».now c.args.path.now) in
    let xs = c.args.nets.now.«module».now.assigns in
    let i = c.loop-assign.assign-index in
    some_on_slice f xs c.as_slice-assign-items.result.now i c.assign-item.result c.as_slice-assign-items.ensures c.loop-assign-test.true c.assign-item.is c.loop-assign.invariant
    ∙ ap (λ o. option_or o (first_some f (drop (i + 1) xs))) c.in_ok-refuse_assign.ensures
