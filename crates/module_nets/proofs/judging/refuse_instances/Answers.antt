use Rattle.std.proofs.Common.{◌∙◌, ◌+◌, ap, drop}
use Rattle.std.specs.Option.{option_or}
use Rattle.std.proofs.lemmas.Result.{err_from_is_err_and}
use Rattle.bud_design.specs.Lists.{first_some}
use Rattle.module_nets.specs.Entering.{instance_fault}
use Rattle.module_nets.specs.Judging.{entry_in}
use Rattle.module_nets.proofs.Refusing.{some_on_slice, refusal_as, refusal_first}
use Rattle.module_nets.proofs.judging.refuse_instances.Goals as goal

pub returns-in_err-refuse_instance : goal.returns-in_err-refuse_instance
returns-in_err-refuse_instance c =
    let f = instance_fault c.args.library.now.modules.now (entry_in c.args.library.now.modules.now c.args.nets.now.«module».now c.args.path.now c.args.entered.now) in
    let xs = c.args.nets.now.«module».now.instances in
    let i = c.loop-k.k in
    let x = c.instance-item.result in
    let fault = c.in_err-refuse_instance.field-0.0 in
    let p = err_from_is_err_and c.from_residual.result c.from_residual.ensures.1 in
    rw (p.1, p.2)
    (refusal_as (first_some f xs) (option_or (f x) (first_some f (drop (i + 1) xs))) fault
    (some_on_slice f xs c.as_slice-instance-items.result.now i x c.as_slice-instance-items.ensures c.loop-k-test.true c.instance-item.is c.loop-k.invariant)
    (refusal_first (f x) (first_some f (drop (i + 1) xs)) fault c.in_err-refuse_instance.ensures))

pub loop-k-preserved : goal.loop-k-preserved
loop-k-preserved c =
    let f = instance_fault c.args.library.now.modules.now (entry_in c.args.library.now.modules.now c.args.nets.now.«module».now c.args.path.now c.args.entered.now) in
    let xs = c.args.nets.now.«module».now.instances in
    let i = c.loop-k.k in
    some_on_slice f xs c.as_slice-instance-items.result.now i c.instance-item.result c.as_slice-instance-items.ensures c.loop-k-test.true c.instance-item.is c.loop-k.invariant
    ∙ ap (λ o. option_or o (first_some f (drop (i + 1) xs))) c.in_ok-refuse_instance.ensures
