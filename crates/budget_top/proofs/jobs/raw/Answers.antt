use Rattle.std.proofs.Common.{Err}
use Rattle.budget_steps.specs.Inputs.{seen, input}
use Rattle.budget_top.specs.RawFiles.{problems}
use Rattle.budget_top.specs.Jobs.{raw_job}
use Rattle.budget_top.specs.Problems.{sound, measured}
use Rattle.budget_steps.specs.Steps.{◌>>◌}
use Rattle.budget_steps.proofs.Courses.{follows_first, follows_next, follows_exit}
use Rattle.budget_top.proofs.jobs.raw.Goals as goal

pub returns-in_err-sound-clause-course : goal.returns-in_err-sound-clause-course
returns-in_err-sound-clause-course g c =
    let shelf = seen g.S.Shelf.files g.S.Shelf.faults c.args.shelf.now c.load.new.shelf in
    let p = c.in_ok-problem.problem in
    let stop = c.in_err-sound.field-0.0 in
    follows_exit (raw_job shelf c.args.name.now) c.from_residual-in_err-sound.result stop c.from_residual-in_err-sound.ensures.1
    (follows_next (input shelf problems c.args.name.now) (λ p. sound p >> measured p) p (Err stop) c.in_ok-problem.ensures.input
    (follows_first (sound p) (λ _. measured p) stop c.in_err-sound.ensures.course))
