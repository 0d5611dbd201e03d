use Rattle.budget_report.specs.Subjects.{bare}
use Rattle.budget_report.specs.declared.causes.Cause.TheVariants as cause
use Rattle.budget_steps.proofs.Courses.{step_refused}
use Rattle.budget_designs.specs.TimedDesigns.{timed_of, whole}
use Rattle.budget_plans.proofs.layouts.layered_by.Goals as goal
use Rattle.layer_theory.specs.LayerAnswers.{IsLayerAnswer}

pub returns-in-Err-clause-course : goal.returns-in-Err-clause-course
returns-in-Err-clause-course c =
    let answer = rw c.in-Err.is at c.layer.ensures.answer in
    step_refused (IsLayerAnswer (whole (timed_of c.args.design.now)) c.args.policy.now) bare (λ fault. cause.Layer fault) c.in-Err.fault c.refused_by.result answer c.refused_by.ensures

pub returns-in-Ok-clause-course : goal.returns-in-Ok-clause-course
returns-in-Ok-clause-course c = rw c.in-Ok.is at c.layer.ensures.answer
