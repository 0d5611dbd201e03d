use Rattle.std.proofs.Common.{◌∙◌, ap, sym, refl, Some, None}
use Rattle.std.proofs.lemmas.Result.{err_from_is_err_and}
use Rattle.module_nets.specs.Judging.{entry_at, link_fault, port_fault, linked_by, Flags}
use Rattle.module_nets.specs.declared.faults.ElabFault.TheVariants.{UnknownPort}
use Rattle.module_nets.proofs.Refusing.{answers_as, refusal_memory}
use Rattle.module_nets.proofs.JudgeSteps.{named_is, placed_is, flags_named, flags_placed, on_ok}
use Rattle.module_nets.proofs.judging.refuse_link.Goals as goal

pub returns-in_err-printed-in-None-clause-answer : goal.returns-in_err-printed-in-None-clause-answer
returns-in_err-printed-in-None-clause-answer c = λ linked flagged.
    let e = entry_at c.args.nets.now.«module».now c.args.path.now in
    let p = err_from_is_err_and c.from_residual.result c.from_residual.ensures.1 in
    rw (p.1, p.2) (refusal_memory (link_fault e c.args.header.now.«module».now.ports c.args.instance.now linked c.args.k c.args.link.now) c.in_err-printed-in-None.field-0.0 c.in_err-printed-in-None.ensures.memory)

pub returns-in_err-printed_below-in-None-port_in_place-clause-answer : goal.returns-in_err-printed_below-in-None-port_in_place-clause-answer
returns-in_err-printed_below-in-None-port_in_place-clause-answer c = λ linked flagged.
    let e = entry_at c.args.nets.now.«module».now c.args.path.now in
    let p = err_from_is_err_and c.from_residual-in_err-printed_below-in-None-port_in_place.result c.from_residual-in_err-printed_below-in-None-port_in_place.ensures.1 in
    rw (p.1, p.2) (refusal_memory (link_fault e c.args.header.now.«module».now.ports c.args.instance.now linked c.args.k c.args.link.now) c.in_err-printed_below-in-None-port_in_place.field-0.0
    c.in_err-printed_below-in-None-port_in_place.ensures.memory)

pub returns-in_ok-printed-in-None-clause-answer : goal.returns-in_ok-printed-in-None-clause-answer
returns-in_ok-printed-in-None-clause-answer c = λ linked flagged.
    let e = entry_at c.args.nets.now.«module».now c.args.path.now in
    named_is e c.args.header.now.«module».now.ports c.args.instance.now linked c.args.k c.args.link.now c.in-Named.port c.as_slice-name.result.now c.in-Named.pieces c.in-Named.pieces None c.in-Named.is
    c.as_slice-name.ensures refl (c.in-None.ensures.port linked flagged)
    ∙ ap (λ t. Some (UnknownPort t)) (sym c.in_ok-printed-in-None.ensures.printed)

pub returns-in-Some-clause-answer : goal.returns-in-Some-clause-answer
returns-in-Some-clause-answer c = λ linked flagged.
    let e = entry_at c.args.nets.now.«module».now c.args.path.now in
    answers_as (link_fault e c.args.header.now.«module».now.ports c.args.instance.now linked c.args.k c.args.link.now) (port_fault e c.in-Some.port.now c.as_slice.result.now) c.refuse_joined.result
    (named_is e c.args.header.now.«module».now.ports c.args.instance.now linked c.args.k c.args.link.now c.in-Named.port c.as_slice-name.result.now c.in-Named.pieces c.as_slice.result.now (Some c.in-Some.port.now)
    c.in-Named.is c.as_slice-name.ensures c.as_slice.ensures (c.in-Some.ensures.port linked flagged)) c.refuse_joined.ensures

pub returns-in-Some-clause-flags : goal.returns-in-Some-clause-flags
returns-in-Some-clause-flags c = λ linked flagged.
    on_ok c.refuse_joined.result (Flags c.args.header.now.«module».now (linked_by c.args.link.now linked) c.free_port.new.flags)
    (flags_named c.args.header.now.«module».now linked c.free_port.new.flags c.args.link.now c.in-Named.port c.as_slice-name.result.now c.in-Named.pieces c.in-Named.is c.as_slice-name.ensures
    (c.in-Some.ensures.flags linked flagged))

pub returns-in_ok-printed_below-in-None-port_in_place-clause-answer : goal.returns-in_ok-printed_below-in-None-port_in_place-clause-answer
returns-in_ok-printed_below-in-None-port_in_place-clause-answer c = λ linked flagged.
    let e = entry_at c.args.nets.now.«module».now c.args.path.now in
    placed_is e c.args.header.now.«module».now.ports c.as_slice-in-Placed.result.now c.args.instance.now linked c.args.k c.args.link.now c.in-Placed.pieces c.in-Placed.pieces None c.in-Placed.is refl
    c.as_slice-in-Placed.ensures c.in-None-port_in_place.ensures
    ∙ ap (λ t. Some (UnknownPort t)) (sym c.in_ok-printed_below-in-None-port_in_place.ensures.printed)

pub returns-in-Some-port_in_place-clause-answer : goal.returns-in-Some-port_in_place-clause-answer
returns-in-Some-port_in_place-clause-answer c = λ linked flagged.
    let e = entry_at c.args.nets.now.«module».now c.args.path.now in
    answers_as (link_fault e c.args.header.now.«module».now.ports c.args.instance.now linked c.args.k c.args.link.now) (port_fault e c.in-Some-port_in_place.port.now c.as_slice-in-Some-port_in_place.result.now)
    c.refuse_joined-in-Some-port_in_place.result
    (placed_is e c.args.header.now.«module».now.ports c.as_slice-in-Placed.result.now c.args.instance.now linked c.args.k c.args.link.now c.in-Placed.pieces c.as_slice-in-Some-port_in_place.result.now
    (Some c.in-Some-port_in_place.port.now) c.in-Placed.is c.as_slice-in-Some-port_in_place.ensures c.as_slice-in-Placed.ensures c.in-Some-port_in_place.ensures) c.refuse_joined-in-Some-port_in_place.ensures

pub returns-in-Some-port_in_place-clause-flags : goal.returns-in-Some-port_in_place-clause-flags
returns-in-Some-port_in_place-clause-flags c = λ linked flagged.
    on_ok c.refuse_joined-in-Some-port_in_place.result (Flags c.args.header.now.«module».now (linked_by c.args.link.now linked) c.args.flags.now)
    (flags_placed c.args.header.now.«module».now linked c.args.flags.now c.args.link.now c.in-Placed.pieces flagged c.in-Placed.is)
