use Rattle.budget_steps.specs.Inputs.{seen}
use Rattle.budget_steps.proofs.Courses.{follows_exit, follows_first, follows_next}
use Rattle.budget_plans.specs.Layouts.{laid_of, layout}
use Rattle.budget_plans.specs.Plans.{planned}
use Rattle.budget_plans.specs.Jobs.{plan_job}
use Rattle.budget_plans.proofs.jobs.plan.Goals as goal

pub returns-in_err-layout-clause-course : goal.returns-in_err-layout-clause-course
returns-in_err-layout-clause-course g c =
    let shelf = seen g.S.Shelf.files g.S.Shelf.faults c.args.shelf.now c.load_layout.new.shelf in
    let stop = c.in_err-layout.field-0.0 in
    follows_exit (plan_job shelf c.args.netlist.now c.args.delays.now c.args.constraints.now c.args.policy.now c.args.certificate.now) c.from_residual.result stop c.from_residual.ensures.1
    (follows_first (layout shelf c.args.netlist.now c.args.delays.now c.args.constraints.now c.args.policy.now) (λ l. planned l c.args.certificate.now) stop c.in_err-layout.ensures.course)

pub returns-clause-course : goal.returns-clause-course
returns-clause-course g c =
    let shelf = seen g.S.Shelf.files g.S.Shelf.faults c.args.shelf.now c.load_layout.new.shelf in
    follows_next (layout shelf c.args.netlist.now c.args.delays.now c.args.constraints.now c.args.policy.now) (λ l. planned l c.args.certificate.now) (laid_of c.in_ok-layout.layout) c.planned.result
    c.in_ok-layout.ensures.course c.planned.ensures
