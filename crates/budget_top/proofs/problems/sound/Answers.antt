use Rattle.budget_report.specs.Subjects.{raw}
use Rattle.budget_report.specs.declared.causes.Cause.TheVariants.{Problem as Unsound}
use Rattle.budget_top.specs.Problems.{IsSoundness}
use Rattle.budget_steps.proofs.Courses.{step_refused}
use Rattle.budget_top.proofs.Soundnesses.{fault_within}
use Rattle.budget_top.proofs.problems.sound.Goals as goal

pub refused-requires : goal.refused-requires
refused-requires c = let answer = rw c.in-Err.is at c.check.ensures.first in fault_within c.args.problem.now c.in-Err.fault answer

pub returns-in-Err-clause-course : goal.returns-in-Err-clause-course
returns-in-Err-clause-course c =
    let answer = rw c.in-Err.is at c.check.ensures.first in
    step_refused (IsSoundness c.args.problem.now) (raw c.args.problem.now) (λ fault. Unsound fault) c.in-Err.fault c.refused.result answer c.refused.ensures
