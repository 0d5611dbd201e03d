use Rattle.std.proofs.Common.{◌∙◌, [], ap, sym}
use Rattle.std.specs.Option.{option_or, option_map}
use Rattle.std.proofs.lemmas.Result.{err_from_is_err_and}
use Rattle.module_nets.specs.Entering.{instance_fault, recursive, inout_port, link_faults}
use Rattle.module_nets.specs.Judging.{entry_in}
use Rattle.module_nets.proofs.Refusing.{answers_as, answers_later, refusal_as, refusal_first, refusal_later}
use Rattle.module_nets.proofs.JudgeSteps.{child_unknown, child_known, recursive_so, recursive_not}
use Rattle.module_nets.proofs.judging.refuse_instance.Goals as goal

pub returns-in_default : goal.returns-in_default
returns-in_default c =
    child_unknown c.args.library.now.modules.now (entry_in c.args.library.now.modules.now c.args.nets.now.«module».now c.args.path.now c.args.entered.now) c.args.instance.now c.as_slice-name.result.now
    c.in_ok-printed.field-0 c.as_slice-name.ensures (sym c.child.ensures ∙ ap (option_map (λ h. h.now.«module».now)) c.in_default.is) c.in_ok-printed.ensures.printed

pub returns-then-is_entered : goal.returns-then-is_entered
returns-then-is_entered c =
    let e = entry_in c.args.library.now.modules.now c.args.nets.now.«module».now c.args.path.now c.args.entered.now in
    let i = c.args.instance.now in
    let child = c.in-Some.header.now.«module».now in
    child_known c.args.library.now.modules.now e i c.as_slice-name.result.now child c.as_slice-name.ensures (sym c.in-Some.ensures)
    ∙ ap (λ o. option_or o (option_or (inout_port child) (link_faults e child.ports i.name [] 0 i.links)))
    (recursive_so e i c.as_slice-name.result.now c.in_ok-printed-2.field-0 c.is_entered.result c.as_slice-name.ensures c.is_entered.ensures c.if-is_entered.true c.in_ok-printed-2.ensures.printed)

pub returns-in_err-refuse_inout : goal.returns-in_err-refuse_inout
returns-in_err-refuse_inout c =
    let e = entry_in c.args.library.now.modules.now c.args.nets.now.«module».now c.args.path.now c.args.entered.now in
    let i = c.args.instance.now in
    let child = c.in-Some.header.now.«module».now in
    let fault = c.in_err-refuse_inout.field-0.0 in
    let links = link_faults e child.ports i.name [] 0 i.links in
    let p = err_from_is_err_and c.from_residual-in_err-refuse_inout.result c.from_residual-in_err-refuse_inout.ensures.1 in
    rw (p.1, p.2)
    (refusal_as (instance_fault c.args.library.now.modules.now e i) (option_or (recursive e i) (option_or (inout_port child) links)) fault
    (child_known c.args.library.now.modules.now e i c.as_slice-name.result.now child c.as_slice-name.ensures (sym c.in-Some.ensures))
    (refusal_later (recursive e i) (option_or (inout_port child) links) fault
    (recursive_not e i c.as_slice-name.result.now c.is_entered.result c.as_slice-name.ensures c.is_entered.ensures c.if-is_entered.false)
    (refusal_first (inout_port child) links fault c.in_err-refuse_inout.ensures)))

pub returns : goal.returns
returns c =
    let e = entry_in c.args.library.now.modules.now c.args.nets.now.«module».now c.args.path.now c.args.entered.now in
    let i = c.args.instance.now in
    let child = c.in-Some.header.now.«module».now in
    let links = link_faults e child.ports i.name [] 0 i.links in
    answers_as (instance_fault c.args.library.now.modules.now e i) (option_or (recursive e i) (option_or (inout_port child) links)) c.refuse_links.result
    (child_known c.args.library.now.modules.now e i c.as_slice-name.result.now child c.as_slice-name.ensures (sym c.in-Some.ensures))
    (answers_later (recursive e i) (option_or (inout_port child) links) c.refuse_links.result
    (recursive_not e i c.as_slice-name.result.now c.is_entered.result c.as_slice-name.ensures c.is_entered.ensures c.if-is_entered.false)
    (answers_later (inout_port child) links c.refuse_links.result c.in_ok-refuse_inout.ensures c.refuse_links.ensures))
