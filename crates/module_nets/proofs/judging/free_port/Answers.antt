use Rattle.std.proofs.Common.{◌∙◌, ap, sym, refl, arith}
use Rattle.std.specs.Option.{option_map}
use Rattle.module_nets.proofs.JudgeSteps.{free_unknown, free_again, free_found, flags_set, port_below}
use Rattle.module_nets.proofs.judging.free_port.Goals as goal

pub returns-in_err-place-clause-port : goal.returns-in_err-place-clause-port
returns-in_err-place-clause-port c = λ linked flagged.
    ap (λ o. option_map (λ p. p.now) o) c.from_residual.ensures ∙ free_unknown linked c.args.header.now.«module».now c.args.name.now (sym c.find.ensures ∙ c.in_err-place.was)

pub bounds-flags-place : goal.bounds-flags-place
bounds-flags-place c = omega (arith, port_below c.args.header.now.«module».now c.args.name.now c.in_ok-place.place (sym c.find.ensures ∙ c.in_ok-place.was), c.requires)

pub bounds-flags-place-2 : goal.bounds-flags-place-2
bounds-flags-place-2 c = omega (arith, port_below c.args.header.now.«module».now c.args.name.now c.in_ok-place.place (sym c.find.ensures ∙ c.in_ok-place.was), c.requires)

pub port-requires : goal.port-requires
port-requires c = port_below c.args.header.now.«module».now c.args.name.now c.in_ok-place.place (sym c.find.ensures ∙ c.in_ok-place.was)

pub returns-then-flags-place-clause-port : goal.returns-then-flags-place-clause-port
returns-then-flags-place-clause-port c = λ linked flagged.
    free_again linked c.args.header.now.«module».now c.args.name.now c.in_ok-place.place c.args.flags.now flagged (sym c.find.ensures ∙ c.in_ok-place.was) c.if-flags-place.true

pub returns-clause-port : goal.returns-clause-port
returns-clause-port c = λ linked flagged.
    free_found linked c.args.header.now.«module».now c.args.name.now c.in_ok-place.place c.args.flags.now c.args.header.now.«module».now.ports c.port.result.now flagged
    (sym c.find.ensures ∙ c.in_ok-place.was) c.if-flags-place.false refl c.port.ensures

pub returns-clause-flags : goal.returns-clause-flags
returns-clause-flags c = λ linked flagged.
    flags_set c.args.header.now.«module».now linked c.args.flags.now _ c.args.name.now c.in_ok-place.place flagged (sym c.find.ensures ∙ c.in_ok-place.was) refl
