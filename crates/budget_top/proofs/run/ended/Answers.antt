use Rattle.std.proofs.Common.{Option, Err, sym, subst, refl}
use Rattle.budget_report.specs.Subjects.{bare}
use Rattle.budget_report.specs.declared.causes.Cause.TheVariants.{Words}
use Rattle.budget_steps.specs.declared.outcomes.Answer.{Answer}
use Rattle.budget_steps.specs.Inputs.{seen}
use Rattle.budget_top.specs.Jobs.{course, misfit}
use Rattle.budget_steps.specs.Steps.{Follows}
use Rattle.budget_top.specs.Words.{Asked}
use Rattle.budget_steps.proofs.Courses.{follows_refused}
use Rattle.budget_top.proofs.run.ended.Goals as goal

pub returns-in-None-clause-course : goal.returns-in-None-clause-course
returns-in-None-clause-course g c =
    let shelf = seen g.S.Shelf.files g.S.Shelf.faults c.args.shelf.now c.args.shelf.now in
    let P : Option Asked → Type 0 = λ job. Follows {A = Answer} (course shelf job) (Err c.refused.result) in
    subst P (sym c.in-None.ensures.job) (follows_refused misfit (record { subject = bare; cause = Words }) c.refused.result (λ is. refl) c.refused.ensures)
