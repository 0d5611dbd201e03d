use Rattle.budget_plans.specs.Layouts.{laid_of}
use Rattle.budget_plans.proofs.CertifiedPlans.{certified}
use Rattle.budget_plans.proofs.Measures.{meets_of}
use Rattle.budget_plans.proofs.plans.certified.Goals as goal

pub best_plan-requires-clause-meets : goal.best_plan-requires-clause-meets
best_plan-requires-clause-meets c = meets_of c.args.layout.now c.requires.laid c.args.slack c.requires.met

pub returns : goal.returns
returns c =
    certified (laid_of c.args.layout.now) c.args.slack (record { plan = c.in_ok-plan.plan; bytes = c.in_ok-bytes.bytes; text = c.in_ok-text.text }) c.in_ok-bytes.ensures c.in_ok-text.ensures
