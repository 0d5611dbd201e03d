use Rattle.budget_report.specs.Subjects.{pins}
use Rattle.budget_report.specs.declared.causes.Cause.TheVariants as cause
use Rattle.budget_steps.proofs.Courses.{step_refused}
use Rattle.budget_designs.specs.Designs.{AreArcsOrCycle}
use Rattle.budget_designs.proofs.DesignSteps.{cycle_within}
use Rattle.budget_designs.proofs.designs.joined.Goals as goal

pub refused_by-requires : goal.refused_by-requires
refused_by-requires c =
    let answer = rw c.in-Err.is at c.arcs.ensures.answer in
    (tt, cycle_within c.args.flat.now c.args.timing.now c.keep.ensures.is_design c.requires.timing c.requires.leaves c.in-Err.fault answer)

pub returns-in-Err-clause-course : goal.returns-in-Err-clause-course
returns-in-Err-clause-course c =
    let answer = rw c.in-Err.is at c.arcs.ensures.answer in
    step_refused (AreArcsOrCycle c.args.flat.now c.args.timing.now) (pins c.args.flat.now) (λ fault. cause.Graph fault) c.in-Err.fault c.refused_by.result answer c.refused_by.ensures
