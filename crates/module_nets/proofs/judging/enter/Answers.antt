use Rattle.std.proofs.Common.{◌≡◌, ◌∙◌, ◌+◌, ap, get_or, []}
use Rattle.std.proofs.lemmas.List.{get_or_default}
use Rattle.std.proofs.lemmas.Result.{err_from_is_err_and}
use Rattle.bud_design.specs.Lists.{first_again}
use Rattle.bud_base.proofs.FindLemmas.{option_map-none}
use Rattle.module_nets.specs.Entering.{entered_count}
use Rattle.module_nets.specs.Numbers.{declared_names, capped}
use Rattle.module_nets.specs.Paths.{printed_below}
use Rattle.module_nets.specs.Tops.{module_at}
use Rattle.module_nets.specs.declared.faults.ElabFault.TheVariants.{NameTwice}
use Rattle.module_nets.proofs.EnterSteps.{enter_top, enter_twice, enter_large, enter_instances, enter_assigns, enter_clean, count_passed, count_within}
use Rattle.module_nets.proofs.judging.enter.Goals as goal

pub returns-in_err-refuse_top_inout-clause-answer : goal.returns-in_err-refuse_top_inout-clause-answer
returns-in_err-refuse_top_inout-clause-answer c =
    let modules = c.args.library.now.modules.now in
    let all = module_at modules c.args.number in
    let m = get_or modules c.args.number c.index-library-number.result in
    let own : m ≡ all = get_or_default modules c.args.number c.index-library-number.result _ c.requires.number in
    let p = err_from_is_err_and c.from_residual.result c.from_residual.ensures.1 in
    rw (p.1, p.2)
    (enter_top modules c.args.path.now c.args.entered.now (c.args.count + entered_count modules all) m all c.in_err-refuse_top_inout.field-0.0 own c.in_err-refuse_top_inout.ensures)

pub returns-in_err-refuse_name_twice-clause-answer : goal.returns-in_err-refuse_name_twice-clause-answer
returns-in_err-refuse_name_twice-clause-answer c =
    let modules = c.args.library.now.modules.now in
    let all = module_at modules c.args.number in
    let m = get_or modules c.args.number c.index-library-number.result in
    let own : m ≡ all = get_or_default modules c.args.number c.index-library-number.result _ c.requires.number in
    let p = err_from_is_err_and c.from_residual-in_err-refuse_name_twice.result c.from_residual-in_err-refuse_name_twice.ensures.1 in
    rw (p.1, p.2)
    (enter_twice modules c.args.path.now c.args.entered.now (c.args.count + entered_count modules all) m all c.in_err-refuse_name_twice.field-0.0 own c.in_ok-refuse_top_inout.ensures
    c.in_err-refuse_name_twice.ensures)

pub new-requires : goal.new-requires
new-requires c =
    option_map-none (λ name. NameTwice (printed_below c.args.path.now name)) (first_again [] (declared_names (get_or c.args.library.now.modules.now c.args.number c.index-library-number.result))) c.in_ok-refuse_name_twice.ensures

pub returns-then-count-gt4194304-clause-answer : goal.returns-then-count-gt4194304-clause-answer
returns-then-count-gt4194304-clause-answer c =
    let modules = c.args.library.now.modules.now in
    let all = module_at modules c.args.number in
    let m = get_or modules c.args.number c.index-library-number.result in
    let own : m ≡ all = get_or_default modules c.args.number c.index-library-number.result _ c.requires.number in
    let count : c.entered_count.result ≡ capped (entered_count modules all) = c.entered_count.ensures ∙ ap (λ x. capped (entered_count modules x)) (c.in_ok-nets.ensures.«module» ∙ own) in
    enter_large modules c.args.path.now c.args.entered.now (c.args.count + entered_count modules all) m all own c.in_ok-refuse_top_inout.ensures c.in_ok-refuse_name_twice.ensures
    (count_passed c.args.count (entered_count modules all) c.entered_count.result c.saturating_add-count.result count c.saturating_add-count.ensures c.if-count-gt4194304.true)

pub returns-in_err-refuse_instances-clause-answer : goal.returns-in_err-refuse_instances-clause-answer
returns-in_err-refuse_instances-clause-answer c =
    let modules = c.args.library.now.modules.now in
    let all = module_at modules c.args.number in
    let m = get_or modules c.args.number c.index-library-number.result in
    let own : m ≡ all = get_or_default modules c.args.number c.index-library-number.result _ c.requires.number in
    let count : c.entered_count.result ≡ capped (entered_count modules all) = c.entered_count.ensures ∙ ap (λ x. capped (entered_count modules x)) (c.in_ok-nets.ensures.«module» ∙ own) in
    let within = count_within c.args.count (entered_count modules all) c.entered_count.result c.saturating_add-count.result count c.saturating_add-count.ensures c.if-count-gt4194304.false in
    let p = err_from_is_err_and c.from_residual-in_err-refuse_instances.result c.from_residual-in_err-refuse_instances.ensures.1 in
    rw (p.1, p.2)
    (enter_instances modules c.args.path.now c.args.entered.now (c.args.count + entered_count modules all) m c.in_ok-nets.nets.«module».now all c.in_err-refuse_instances.field-0.0 own
    (c.in_ok-nets.ensures.«module» ∙ own) c.in_ok-refuse_top_inout.ensures c.in_ok-refuse_name_twice.ensures within.0 c.in_err-refuse_instances.ensures)

pub returns-in_err-refuse_assigns-clause-answer : goal.returns-in_err-refuse_assigns-clause-answer
returns-in_err-refuse_assigns-clause-answer c =
    let modules = c.args.library.now.modules.now in
    let all = module_at modules c.args.number in
    let m = get_or modules c.args.number c.index-library-number.result in
    let own : m ≡ all = get_or_default modules c.args.number c.index-library-number.result _ c.requires.number in
    let count : c.entered_count.result ≡ capped (entered_count modules all) = c.entered_count.ensures ∙ ap (λ x. capped (entered_count modules x)) (c.in_ok-nets.ensures.«module» ∙ own) in
    let within = count_within c.args.count (entered_count modules all) c.entered_count.result c.saturating_add-count.result count c.saturating_add-count.ensures c.if-count-gt4194304.false in
    let p = err_from_is_err_and c.from_residual-in_err-refuse_assigns.result c.from_residual-in_err-refuse_assigns.ensures.1 in
    rw (p.1, p.2)
    (enter_assigns modules c.args.path.now c.args.entered.now (c.args.count + entered_count modules all) m c.in_ok-nets.nets.«module».now all c.in_err-refuse_assigns.field-0.0 own
    (c.in_ok-nets.ensures.«module» ∙ own) c.in_ok-refuse_top_inout.ensures c.in_ok-refuse_name_twice.ensures within.0 c.in_ok-refuse_instances.ensures c.in_err-refuse_assigns.ensures)

pub returns-clause-answer : goal.returns-clause-answer
returns-clause-answer c =
    let modules = c.args.library.now.modules.now in
    let all = module_at modules c.args.number in
    let m = get_or modules c.args.number c.index-library-number.result in
    let own : m ≡ all = get_or_default modules c.args.number c.index-library-number.result _ c.requires.number in
    let count : c.entered_count.result ≡ capped (entered_count modules all) = c.entered_count.ensures ∙ ap (λ x. capped (entered_count modules x)) (c.in_ok-nets.ensures.«module» ∙ own) in
    let within = count_within c.args.count (entered_count modules all) c.entered_count.result c.saturating_add-count.result count c.saturating_add-count.ensures c.if-count-gt4194304.false in
    enter_clean modules c.args.path.now c.args.entered.now (c.args.count + entered_count modules all) m c.in_ok-nets.nets.«module».now all own
    (c.in_ok-nets.ensures.«module» ∙ own) c.in_ok-refuse_top_inout.ensures c.in_ok-refuse_name_twice.ensures within.0 c.in_ok-refuse_instances.ensures c.in_ok-refuse_assigns.ensures

pub returns-clause-nets : goal.returns-clause-nets
returns-clause-nets c =
    c.in_ok-nets.ensures.«module» ∙ get_or_default c.args.library.now.modules.now c.args.number c.index-library-number.result _ c.requires.number

pub returns-clause-count : goal.returns-clause-count
returns-clause-count c =
    let modules = c.args.library.now.modules.now in
    let all = module_at modules c.args.number in
    let m = get_or modules c.args.number c.index-library-number.result in
    let own : m ≡ all = get_or_default modules c.args.number c.index-library-number.result _ c.requires.number in
    let count : c.entered_count.result ≡ capped (entered_count modules all) = c.entered_count.ensures ∙ ap (λ x. capped (entered_count modules x)) (c.in_ok-nets.ensures.«module» ∙ own) in
    (count_within c.args.count (entered_count modules all) c.entered_count.result c.saturating_add-count.result count c.saturating_add-count.ensures c.if-count-gt4194304.false).1
