use Rattle.std.proofs.Common.{ℕ, List, ap, ◌∙◌, subst}
use Rattle.budget_report.specs.Subjects.{bare}
use Rattle.budget_report.specs.declared.causes.Cause.{Cause}
use Rattle.budget_steps.specs.Steps.{IsRefused}
use Rattle.budget_steps.proofs.Courses.{step_refused}
use Rattle.budget_steps.proofs.inputs.read_text.Goals as goal

pub returns-in_ok-name-in-Err-clause-reading : goal.returns-in_ok-name-in-Err-clause-reading
returns-in_ok-name-in-Err-clause-reading g c =
    let grammar = g.R.Input.grammar in
    let answer = rw c.in-Err.is at c.read.ensures.answer in
    let P : Cause → Type 0 = λ cause. IsRefused (record { subject = bare; cause = cause }) c.refused.result in
    let e = c.cause-cause.ensures.cause ∙ ap (λ (n : List ℕ). grammar.cause n c.in-Err.fault) c.in_ok-name-in-Err.ensures in
    step_refused (grammar.answers c.args.text.now) bare (grammar.cause c.args.name.now) c.in-Err.fault c.refused.result answer (subst P e c.refused.ensures)
