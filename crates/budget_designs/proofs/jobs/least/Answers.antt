use Rattle.budget_steps.specs.Inputs.{seen}
use Rattle.budget_steps.proofs.Courses.{follows_first, follows_next, follows_exit}
use Rattle.budget_designs.specs.DesignFiles.{design_files}
use Rattle.budget_designs.specs.Jobs.{least_in, least_job}
use Rattle.budget_designs.proofs.jobs.least.Goals as goal

pub returns-in_err-files-clause-course : goal.returns-in_err-files-clause-course
returns-in_err-files-clause-course g c =
    let shelf = seen g.S.Shelf.files g.S.Shelf.faults c.args.shelf.now c.load_design.new.shelf in
    let stop = c.in_err-files.field-0.0 in
    follows_exit (least_job shelf c.args.netlist.now c.args.delays.now c.args.constraints.now) c.from_residual.result stop c.from_residual.ensures.1
    (follows_first (design_files shelf c.args.netlist.now c.args.delays.now c.args.constraints.now) least_in stop c.in_err-files.ensures.course)

pub returns-clause-course : goal.returns-clause-course
returns-clause-course g c =
    let shelf = seen g.S.Shelf.files g.S.Shelf.faults c.args.shelf.now c.load_design.new.shelf in
    follows_next (design_files shelf c.args.netlist.now c.args.delays.now c.args.constraints.now) least_in c.in_ok-files.files c.least_in.result
    c.in_ok-files.ensures.course c.least_in.ensures
