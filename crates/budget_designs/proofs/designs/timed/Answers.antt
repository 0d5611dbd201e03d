use Rattle.budget_report.specs.Subjects.{bare}
use Rattle.budget_report.specs.declared.causes.Cause.TheVariants as cause
use Rattle.budget_steps.proofs.Courses.{step_refused}
use Rattle.budget_designs.specs.Designs.{IsTiming}
use Rattle.budget_designs.proofs.designs.timed.Goals as goal

pub returns-in-Err-clause-course : goal.returns-in-Err-clause-course
returns-in-Err-clause-course c =
    let answer = rw c.in-Err.is at c.bind.ensures.answer in
    step_refused (IsTiming c.args.flat.now c.args.delays.now.rows) bare (λ fault. cause.Bind fault) c.in-Err.fault c.refused_by.result answer c.refused_by.ensures

pub returns-in-Ok-clause-course : goal.returns-in-Ok-clause-course
returns-in-Ok-clause-course c = record {
  bound = rw c.in-Ok.is at c.bind.ensures.answer;
  sound = rw c.in-Ok.is at c.bind.ensures.sound;
  leaves = rw c.in-Ok.is at c.bind.ensures.pairs;
}
