use Rattle.std.proofs.Common.{List, Err, ◌∙◌, subst}
use Rattle.bud_design.specs.declared.policies.NumberedCommand.{NumberedCommand}
use Rattle.requirements.specs.Constraining.{IsResolveAnswer}
use Rattle.budget_report.specs.Subjects.{bare}
use Rattle.budget_report.specs.declared.causes.Cause.TheVariants as cause
use Rattle.budget_steps.proofs.Courses.{step_refused}
use Rattle.budget_designs.specs.Designs.{AreConstrained}
use Rattle.budget_designs.proofs.designs.constrained.Goals as goal

pub returns-in-Ok-clause-course : goal.returns-in-Ok-clause-course
returns-in-Ok-clause-course c = rw (c.as_slice.ensures, c.in_ok-list.ensures.numbered) at (rw c.in-Ok.is at c.resolve.ensures.answer)

pub returns-clause-course : goal.returns-clause-course
returns-clause-course c =
    let d = c.args.flat.now in
    let t = c.args.timing.now in
    let given = rw c.in-Err.is at c.resolve.ensures.answer in
    let answer = subst (λ (xs : List NumberedCommand). IsResolveAnswer (record { design = d; root = 0; timing = t }) xs (Err c.in-Err.fault)) (c.as_slice.ensures ∙ c.in_ok-list.ensures.numbered) given in
    step_refused (AreConstrained d t c.args.commands) bare (λ fault. cause.Resolve fault) c.in-Err.fault c.refused_by.result answer c.refused_by.ensures
