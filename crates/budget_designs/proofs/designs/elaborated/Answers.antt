use Rattle.std.specs.Option.{option_map}
use Rattle.budget_report.specs.Subjects.{bare}
use Rattle.budget_report.specs.declared.causes.Cause.TheVariants as cause
use Rattle.budget_steps.proofs.Courses.{step_refused}
use Rattle.budget_designs.specs.Designs.{IsElaboration}
use Rattle.budget_designs.proofs.designs.elaborated.Goals as goal

pub returns-in-Ok : goal.returns-in-Ok
returns-in-Ok c = record { flat = rw c.in-Ok.is at c.elaborate.ensures; design = c.keep.ensures.is_design }

pub returns-in-Err : goal.returns-in-Err
returns-in-Err c =
    let answer = rw c.in-Err.is at c.elaborate.ensures in
    step_refused (IsElaboration c.args.modules.now (option_map (λ n. n.now) c.args.top)) bare (λ fault. cause.Elab fault) c.in-Err.fault c.refused_by.result answer c.refused_by.ensures
