use Rattle.budget_plans.specs.Layouts.{laid_of}
use Rattle.budget_plans.proofs.CertifiedPlans.{planned_by}
use Rattle.budget_plans.proofs.plans.written.Goals as goal

pub returns : goal.returns
returns c =
    planned_by (laid_of c.args.layout.now) c.args.slack c.args.certificate.now c.in_ok-certified.certified c.in_ok-answer.answer c.requires.met c.in_ok-certified.ensures c.in_ok-answer.ensures
