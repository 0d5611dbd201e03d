use Rattle.std.proofs.Common.{Err, arith, ◌∙◌}
use Rattle.budget_steps.specs.Inputs.{seen, input}
use Rattle.budget_steps.specs.Steps.{◌>>=◌}
use Rattle.budget_steps.proofs.Courses.{follows_exit, follows_first, follows_next}
use Rattle.budget_steps.proofs.FileLaws.{IsDuring, reads_first, reads_next}
use Rattle.budget_designs.specs.DesignFiles.{design_files}
use Rattle.budget_designs.proofs.TimedLaws.{files_source}
use Rattle.budget_plans.specs.Files.{policies, certificates}
use Rattle.budget_plans.specs.Jobs.{check_in, check_job}
use Rattle.budget_plans.proofs.TextNames.{names_read}
use Rattle.budget_plans.proofs.jobs.check.Goals as goal

pub returns-in_err-files-clause-course : goal.returns-in_err-files-clause-course
returns-in_err-files-clause-course g c =
    let shelf = seen g.S.Shelf.files g.S.Shelf.faults c.args.shelf.now c.load_design.new.shelf in
    let stop = c.in_err-files.field-0.0 in
    follows_exit (check_job shelf c.args.netlist.now c.args.delays.now c.args.constraints.now c.args.policy.now c.args.certificate.now) c.from_residual.result stop c.from_residual.ensures.1
    (follows_first (design_files shelf c.args.netlist.now c.args.delays.now c.args.constraints.now)
    (λ files. input shelf policies c.args.policy.now >>= λ lines. input shelf certificates c.args.certificate.now >>= check_in files lines) stop c.in_err-files.ensures.course)

pub returns-in_err-policy-clause-course : goal.returns-in_err-policy-clause-course
returns-in_err-policy-clause-course g c =
    let shelf = seen g.S.Shelf.files g.S.Shelf.faults c.args.shelf.now c.load.new.shelf in
    let second = seen g.S.Shelf.files g.S.Shelf.faults c.load_design.new.shelf c.load.new.shelf in
    let during : IsDuring second shelf = record { files = c.load_design.ensures.files; before = c.load_design.ensures.later; now = omega arith } in
    let files = c.in_ok-files.files in
    let stop = c.in_err-policy.field-0.0 in
    follows_exit (check_job shelf c.args.netlist.now c.args.delays.now c.args.constraints.now c.args.policy.now c.args.certificate.now) c.from_residual-in_err-policy.result stop c.from_residual-in_err-policy.ensures.1
    (follows_next (design_files shelf c.args.netlist.now c.args.delays.now c.args.constraints.now)
    (λ files. input shelf policies c.args.policy.now >>= λ lines. input shelf certificates c.args.certificate.now >>= check_in files lines) files (Err stop) c.in_ok-files.ensures.course
    (reads_first policies c.args.policy.now second shelf (λ lines. input shelf certificates c.args.certificate.now >>= check_in files lines) stop during c.in_err-policy.ensures.input))

pub returns-in_err-cert-clause-course : goal.returns-in_err-cert-clause-course
returns-in_err-cert-clause-course g c =
    let shelf = seen g.S.Shelf.files g.S.Shelf.faults c.args.shelf.now c.load-2.new.shelf in
    let second = seen g.S.Shelf.files g.S.Shelf.faults c.load_design.new.shelf c.load.new.shelf in
    let third = seen g.S.Shelf.files g.S.Shelf.faults c.load.new.shelf c.load-2.new.shelf in
    let during : IsDuring second shelf = record { files = c.load_design.ensures.files; before = c.load_design.ensures.later; now = c.load-2.ensures.later } in
    let behind : IsDuring third shelf = record { files = c.load.ensures.files ∙ c.load_design.ensures.files; before = omega (arith, c.load_design.ensures.later, c.load.ensures.later); now = omega arith } in
    let files = c.in_ok-files.files in
    let policy = c.in_ok-policy.policy in
    let stop = c.in_err-cert.field-0.0 in
    follows_exit (check_job shelf c.args.netlist.now c.args.delays.now c.args.constraints.now c.args.policy.now c.args.certificate.now) c.from_residual-in_err-cert.result stop c.from_residual-in_err-cert.ensures.1
    (follows_next (design_files shelf c.args.netlist.now c.args.delays.now c.args.constraints.now)
    (λ files. input shelf policies c.args.policy.now >>= λ lines. input shelf certificates c.args.certificate.now >>= check_in files lines) files (Err stop) c.in_ok-files.ensures.course
    (reads_next policies c.args.policy.now second shelf (λ lines. input shelf certificates c.args.certificate.now >>= check_in files lines) policy (Err stop) during c.in_ok-policy.ensures.input
    (reads_first certificates c.args.certificate.now third shelf (check_in files policy) stop behind c.in_err-cert.ensures.input)))

pub check_in-requires-clause-names : goal.check_in-requires-clause-names
check_in-requires-clause-names g c =
    let first = seen g.S.Shelf.files g.S.Shelf.faults c.args.shelf.now c.load_design.new.shelf in
    names_read c.in_ok-files.files ((files_source c.args.netlist.now c.args.delays.now c.args.constraints.now).known first c.in_ok-files.files c.in_ok-files.ensures.course)

pub returns-clause-course : goal.returns-clause-course
returns-clause-course g c =
    let shelf = seen g.S.Shelf.files g.S.Shelf.faults c.args.shelf.now c.load-2.new.shelf in
    let second = seen g.S.Shelf.files g.S.Shelf.faults c.load_design.new.shelf c.load.new.shelf in
    let third = seen g.S.Shelf.files g.S.Shelf.faults c.load.new.shelf c.load-2.new.shelf in
    let during : IsDuring second shelf = record { files = c.load_design.ensures.files; before = c.load_design.ensures.later; now = c.load-2.ensures.later } in
    let behind : IsDuring third shelf = record { files = c.load.ensures.files ∙ c.load_design.ensures.files; before = omega (arith, c.load_design.ensures.later, c.load.ensures.later); now = omega arith } in
    let files = c.in_ok-files.files in
    let policy = c.in_ok-policy.policy in
    follows_next (design_files shelf c.args.netlist.now c.args.delays.now c.args.constraints.now)
    (λ files. input shelf policies c.args.policy.now >>= λ lines. input shelf certificates c.args.certificate.now >>= check_in files lines) files c.check_in.result c.in_ok-files.ensures.course
    (reads_next policies c.args.policy.now second shelf (λ lines. input shelf certificates c.args.certificate.now >>= check_in files lines) policy c.check_in.result during c.in_ok-policy.ensures.input
    (reads_next certificates c.args.certificate.now third shelf (check_in files policy) c.in_ok-cert.cert c.check_in.result behind c.in_ok-cert.ensures.input c.check_in.ensures))
