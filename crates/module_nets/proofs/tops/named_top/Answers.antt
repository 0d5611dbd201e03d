use Rattle.std.proofs.Common.{◌∙◌, ap, sym, Some}
use Rattle.std.specs.Prelude.{Err}
use Rattle.module_nets.specs.declared.faults.ElabFault.TheVariants.{NoTop}
use Rattle.module_nets.proofs.TopSteps.{top_is, not_plain}
use Rattle.module_nets.proofs.tops.named_top.Goals as goal

pub returns-in-Some : goal.returns-in-Some
returns-in-Some c =
    (c.in-Some.ensures.0, top_is c.args.library.now.modules.now (Some c.args.name.now) c.args.library.now.apart ∙ c.in-Some.ensures.1)

pub returns-in-Ok : goal.returns-in-Ok
returns-in-Ok c =
    top_is c.args.library.now.modules.now (Some c.args.name.now) c.args.library.now.apart
    ∙ (not_plain c.args.library.now.modules.now c.args.name.now c.plain_number.result c.in_default.is c.plain_number.ensures
    ∙ ap (λ t. Err (NoTop (Some t))) (sym c.in-Ok.ensures))
