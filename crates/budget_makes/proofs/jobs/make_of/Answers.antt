use Rattle.budget_steps.proofs.Courses.{follows_exit, follows_first, follows_next}
use Rattle.budget_plans.specs.Layouts.{laid_of}
use Rattle.budget_makes.specs.Jobs.{make_of}
use Rattle.budget_makes.specs.Makes.{made}
use Rattle.budget_makes.specs.OwnFiles.{own_layout}
use Rattle.budget_makes.proofs.jobs.make_of.Goals as goal

pub returns-in_err-layout : goal.returns-in_err-layout
returns-in_err-layout c =
    let stop = c.in_err-layout.field-0.0 in
    follows_exit (make_of c.args.design.now c.args.gates) c.from_residual.result stop c.from_residual.ensures.1
    (follows_first (own_layout c.args.design.now) (λ l. made l c.args.gates c.args.design.now.registers) stop c.in_err-layout.ensures.course)

pub returns : goal.returns
returns c =
    follows_next (own_layout c.args.design.now) (λ l. made l c.args.gates c.args.design.now.registers) (laid_of c.in_ok-layout.layout) c.made.result
    c.in_ok-layout.ensures.course c.made.ensures
