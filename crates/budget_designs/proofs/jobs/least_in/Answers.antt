use Rattle.budget_steps.proofs.Courses.{follows_next}
use Rattle.budget_designs.specs.Slacks.{least_of}
use Rattle.budget_designs.specs.TimedDesigns.{timed_of, timed_design, whole}
use Rattle.budget_designs.proofs.jobs.least_in.Goals as goal

pub returns : goal.returns
returns c =
    let x = c.in_ok-design.design in
    follows_next (timed_design c.args.files) (λ t. least_of (whole t)) (timed_of x) c.least_of.result c.in_ok-design.ensures.course c.least_of.ensures
