use Rattle.budget_steps.proofs.Courses.{follows_exit, follows_first, follows_next}
use Rattle.budget_plans.specs.Layouts.{laid_of, laid_out}
use Rattle.budget_plans.specs.Verdicts.{verdict}
use Rattle.budget_plans.specs.Jobs.{check_in}
use Rattle.budget_plans.proofs.jobs.check_in.Goals as goal

pub returns-in_err-layout : goal.returns-in_err-layout
returns-in_err-layout c =
    let stop = c.in_err-layout.field-0.0 in
    follows_exit (check_in c.args.files c.args.policy c.args.cert.now) c.from_residual.result stop c.from_residual.ensures.1
    (follows_first (laid_out c.args.files c.args.policy) (λ l. verdict l c.args.cert.now) stop c.in_err-layout.ensures.course)

pub returns : goal.returns
returns c =
    follows_next (laid_out c.args.files c.args.policy) (λ l. verdict l c.args.cert.now) (laid_of c.in_ok-layout.layout) c.verdict.result
    c.in_ok-layout.ensures.course c.verdict.ensures
