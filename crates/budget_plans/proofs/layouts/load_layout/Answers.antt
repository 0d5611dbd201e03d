use Rattle.std.proofs.Common.{Ok, Err, arith}
use Rattle.budget_steps.specs.Inputs.{seen, input}
use Rattle.budget_steps.specs.Steps.{◌>>=◌}
use Rattle.budget_steps.proofs.Courses.{follows_first, follows_next}
use Rattle.budget_steps.proofs.FileLaws.{IsDuring, input_during, reads_first}
use Rattle.budget_designs.specs.DesignFiles.{design_files}
use Rattle.budget_designs.proofs.TimedLaws.{files_source, seen_exit, seen_next}
use Rattle.budget_plans.specs.Files.{policies}
use Rattle.budget_plans.specs.Layouts.{laid_of, laid_out, layout}
use Rattle.budget_plans.proofs.TextNames.{names_read}
use Rattle.budget_plans.proofs.layouts.load_layout.Goals as goal

pub returns-in_err-files-clause-course : goal.returns-in_err-files-clause-course
returns-in_err-files-clause-course g c =
    let shelf = seen g.S.Shelf.files g.S.Shelf.faults c.args.shelf.now c.load_design.new.shelf in
    let stop = c.in_err-files.field-0.0 in
    seen_exit laid_of (layout shelf c.args.netlist.now c.args.delays.now c.args.constraints.now c.args.policy.now) c.from_residual.result stop c.from_residual.ensures.1
    (follows_first (design_files shelf c.args.netlist.now c.args.delays.now c.args.constraints.now) (λ files. input shelf policies c.args.policy.now >>= laid_out files) stop c.in_err-files.ensures.course)

pub returns-in_err-policy-clause-course : goal.returns-in_err-policy-clause-course
returns-in_err-policy-clause-course g c =
    let shelf = seen g.S.Shelf.files g.S.Shelf.faults c.args.shelf.now c.load.new.shelf in
    let second = seen g.S.Shelf.files g.S.Shelf.faults c.load_design.new.shelf c.load.new.shelf in
    let during : IsDuring second shelf = record { files = c.load_design.ensures.files; before = c.load_design.ensures.later; now = omega arith } in
    let files = c.in_ok-files.files in
    let stop = c.in_err-policy.field-0.0 in
    seen_exit laid_of (layout shelf c.args.netlist.now c.args.delays.now c.args.constraints.now c.args.policy.now) c.from_residual-in_err-policy.result stop c.from_residual-in_err-policy.ensures.1
    (follows_next (design_files shelf c.args.netlist.now c.args.delays.now c.args.constraints.now) (λ files. input shelf policies c.args.policy.now >>= laid_out files) files (Err stop) c.in_ok-files.ensures.course
    (reads_first policies c.args.policy.now second shelf (laid_out files) stop during c.in_err-policy.ensures.input))

pub laid_out-requires-clause-names : goal.laid_out-requires-clause-names
laid_out-requires-clause-names g c =
    let first = seen g.S.Shelf.files g.S.Shelf.faults c.args.shelf.now c.load_design.new.shelf in
    names_read c.in_ok-files.files ((files_source c.args.netlist.now c.args.delays.now c.args.constraints.now).known first c.in_ok-files.files c.in_ok-files.ensures.course)

pub returns-clause-course : goal.returns-clause-course
returns-clause-course g c =
    let shelf = seen g.S.Shelf.files g.S.Shelf.faults c.args.shelf.now c.load.new.shelf in
    let second = seen g.S.Shelf.files g.S.Shelf.faults c.load_design.new.shelf c.load.new.shelf in
    let during : IsDuring second shelf = record { files = c.load_design.ensures.files; before = c.load_design.ensures.later; now = omega arith } in
    let files = c.in_ok-files.files in
    let policy = c.in_ok-policy.policy in
    seen_next laid_of (design_files shelf c.args.netlist.now c.args.delays.now c.args.constraints.now) (λ files. input shelf policies c.args.policy.now >>= laid_out files) files c.laid_out.result
    c.in_ok-files.ensures.course
    (seen_next laid_of (input shelf policies c.args.policy.now) (laid_out files) policy c.laid_out.result
    (input_during policies c.args.policy.now second shelf during (Ok policy) c.in_ok-policy.ensures.input) c.laid_out.ensures.course)
