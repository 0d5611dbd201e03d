use Rattle.std.proofs.Common.{Ok, Err, arith, ◌∙◌, refl}
use Rattle.budget_steps.specs.Inputs.{seen, input}
use Rattle.budget_steps.specs.Steps.{◌>>=◌, comes_to}
use Rattle.budget_steps.proofs.Courses.{follows_next, follows_exit}
use Rattle.budget_steps.proofs.FileLaws.{IsDuring, reads_first, reads_next}
use Rattle.budget_designs.specs.Files.{netlists, delay_files, constraint_files}
use Rattle.budget_designs.specs.DesignFiles.{design_files, files_with}
use Rattle.budget_designs.proofs.design_files.load_design.Goals as goal

pub returns-in_err-delays-clause-course : goal.returns-in_err-delays-clause-course
returns-in_err-delays-clause-course g c =
    let shelf = seen g.S.Shelf.files g.S.Shelf.faults c.args.shelf.now c.load-2.new.shelf in
    let second = seen g.S.Shelf.files g.S.Shelf.faults c.load.new.shelf c.load-2.new.shelf in
    let during : IsDuring second shelf = record { files = c.load.ensures.files; before = c.load.ensures.later; now = omega arith } in
    let netlist = c.in_ok-netlist.netlist in
    let stop = c.in_err-delays.field-0.0 in
    follows_exit (design_files shelf c.args.netlist.now c.args.delays.now c.args.constraints.now) c.from_residual-in_err-delays.result stop c.from_residual-in_err-delays.ensures.1
    (follows_next (input shelf netlists c.args.netlist.now)
    (λ m. input shelf delay_files c.args.delays.now >>= λ v. input shelf constraint_files c.args.constraints.now >>= λ k. comes_to (files_with m v k)) netlist (Err stop)
    c.in_ok-netlist.ensures.input
    (reads_first delay_files c.args.delays.now second shelf
    (λ v. input shelf constraint_files c.args.constraints.now >>= λ k. comes_to (files_with netlist v k)) stop during c.in_err-delays.ensures.input))

pub returns-in_err-constraints-clause-course : goal.returns-in_err-constraints-clause-course
returns-in_err-constraints-clause-course g c =
    let shelf = seen g.S.Shelf.files g.S.Shelf.faults c.args.shelf.now c.load-3.new.shelf in
    let second = seen g.S.Shelf.files g.S.Shelf.faults c.load.new.shelf c.load-2.new.shelf in
    let third = seen g.S.Shelf.files g.S.Shelf.faults c.load-2.new.shelf c.load-3.new.shelf in
    let during : IsDuring second shelf = record { files = c.load.ensures.files; before = c.load.ensures.later; now = c.load-3.ensures.later } in
    let behind : IsDuring third shelf = record { files = c.load-2.ensures.files ∙ c.load.ensures.files; before = omega (arith, c.load.ensures.later, c.load-2.ensures.later); now = omega arith } in
    let netlist = c.in_ok-netlist.netlist in
    let delays = c.in_ok-delays.delays in
    let stop = c.in_err-constraints.field-0.0 in
    follows_exit (design_files shelf c.args.netlist.now c.args.delays.now c.args.constraints.now) c.from_residual-in_err-constraints.result stop c.from_residual-in_err-constraints.ensures.1
    (follows_next (input shelf netlists c.args.netlist.now)
    (λ m. input shelf delay_files c.args.delays.now >>= λ v. input shelf constraint_files c.args.constraints.now >>= λ k. comes_to (files_with m v k)) netlist (Err stop)
    c.in_ok-netlist.ensures.input
    (reads_next delay_files c.args.delays.now second shelf
    (λ v. input shelf constraint_files c.args.constraints.now >>= λ k. comes_to (files_with netlist v k)) delays (Err stop) during c.in_ok-delays.ensures.input
    (reads_first constraint_files c.args.constraints.now third shelf (λ k. comes_to (files_with netlist delays k)) stop behind c.in_err-constraints.ensures.input)))

pub returns-clause-course : goal.returns-clause-course
returns-clause-course g c =
    let shelf = seen g.S.Shelf.files g.S.Shelf.faults c.args.shelf.now c.load-3.new.shelf in
    let second = seen g.S.Shelf.files g.S.Shelf.faults c.load.new.shelf c.load-2.new.shelf in
    let third = seen g.S.Shelf.files g.S.Shelf.faults c.load-2.new.shelf c.load-3.new.shelf in
    let during : IsDuring second shelf = record { files = c.load.ensures.files; before = c.load.ensures.later; now = c.load-3.ensures.later } in
    let behind : IsDuring third shelf = record { files = c.load-2.ensures.files ∙ c.load.ensures.files; before = omega (arith, c.load.ensures.later, c.load-2.ensures.later); now = omega arith } in
    let netlist = c.in_ok-netlist.netlist in
    let delays = c.in_ok-delays.delays in
    let constraints = c.in_ok-constraints.constraints in
    let files = files_with netlist delays constraints in
    follows_next (input shelf netlists c.args.netlist.now)
    (λ m. input shelf delay_files c.args.delays.now >>= λ v. input shelf constraint_files c.args.constraints.now >>= λ k. comes_to (files_with m v k)) netlist (Ok files)
    c.in_ok-netlist.ensures.input
    (reads_next delay_files c.args.delays.now second shelf
    (λ v. input shelf constraint_files c.args.constraints.now >>= λ k. comes_to (files_with netlist v k)) delays (Ok files) during c.in_ok-delays.ensures.input
    (reads_next constraint_files c.args.constraints.now third shelf (λ k. comes_to (files_with netlist delays k)) constraints (Ok files) behind c.in_ok-constraints.ensures.input refl))
