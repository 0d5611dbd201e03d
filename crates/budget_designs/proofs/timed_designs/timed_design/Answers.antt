use Rattle.std.proofs.Common.{Err}
use Rattle.budget_steps.proofs.Courses.{follows_first}
use Rattle.budget_designs.specs.Designs.{elaborated}
use Rattle.budget_designs.specs.TimedDesigns.{timed_of, timed_below, timed_design}
use Rattle.budget_designs.proofs.TimedLaws.{seen_exit, seen_next, elaborated_as}
use Rattle.budget_designs.proofs.timed_designs.timed_design.Goals as goal

pub returns-in_err-flat-clause-course : goal.returns-in_err-flat-clause-course
returns-in_err-flat-clause-course c =
    let files = c.args.files in
    let stop = c.in_err-flat.field-0.0 in
    let flat = elaborated_as _ files.netlist _ files.constraints.design (Err stop) c.as_slice.ensures c.top_name.ensures c.in_err-flat.ensures in
    seen_exit timed_of (timed_design files) c.from_residual.result stop c.from_residual.ensures.1
    (follows_first (elaborated files.netlist files.constraints.design) (λ d. timed_below d files.delays.rows files.constraints.commands) stop flat)

pub returns-clause-course : goal.returns-clause-course
returns-clause-course c =
    let files = c.args.files in
    let flat = rw (c.as_slice.ensures, c.top_name.ensures) at c.in_ok-flat.ensures in
    seen_next timed_of (elaborated files.netlist files.constraints.design) (λ d. timed_below d files.delays.rows files.constraints.commands) c.in_ok-flat.flat c.timed_below.result
    flat c.timed_below.ensures.course
