use Rattle.std.proofs.Common.{◌+◌, ◌≤◌, length, arith, sym, ◌∙◌, ap, subst}
use Rattle.bud_syntax.specs.declared.modules.Module.{Module}
use Rattle.module_nets.specs.Entering.{entered_count, body_fault}
use Rattle.module_nets.specs.Judging.{entry_in}
use Rattle.module_nets.specs.Nets.{all_bits}
use Rattle.module_nets.specs.Tops.{module_at}
use Rattle.net_drivers.specs.Phases.{IsClean}
use Rattle.elaborations.specs.Elaborations.{two_drivers}
use Rattle.hierarchy.specs.Walking.{entry_at}
use Rattle.hierarchy.proofs.CleanLaws.{is-clean, few-bits, neither}
use Rattle.hierarchy.proofs.walks.enter_module.Goals as goal

pub survey_module-requires-clause-clean : goal.survey_module-requires-clause-clean
survey_module-requires-clause-clean c =
    let modules = c.args.library.now.modules.now in
    let m = module_at modules c.args.kind in
    let n = entered_count modules m in
    let small : length (all_bits c.in_ok-nets.field-0.nets.module.now) ≤ 8388608 = few-bits (length (all_bits c.in_ok-nets.field-0.nets.module.now)) c.in_ok-nets.field-0.nets.bits c.in_ok-nets.field-0.nets.all (omega (arith, c.if-nets-gt8388608.false)) in
    subst (IsClean modules) (sym c.in_ok-nets.ensures.nets)
    (is-clean modules (entry_in modules m c.as_slice.result.now c.as_slice-2.result.now) (c.args.count + n) c.in_ok-nets.ensures.answer (omega arith)
    (subst (λ (x : Module). length (all_bits x) ≤ 8388608) c.in_ok-nets.ensures.nets small))

pub returns-clause-answer : goal.returns-clause-answer
returns-clause-answer c =
    let modules = c.args.library.now.modules.now in
    let m = module_at modules c.args.kind in
    let trail = c.args.trail.now in
    let n = c.args.count + entered_count modules m in
    neither (body_fault modules (entry_at modules c.args.kind trail) n) (two_drivers modules (entry_at modules c.args.kind trail))
    (ap (λ p. body_fault modules (entry_in modules m p trail.line.items) n) (sym c.as_slice.ensures.value)
    ∙ (ap (λ l. body_fault modules (entry_in modules m c.as_slice.result.now l) n) (sym c.as_slice-2.ensures.value) ∙ c.in_ok-nets.ensures.answer))
    c.in_ok-survey_module.ensures.answer
