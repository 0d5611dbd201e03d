use Rattle.std.proofs.Common.{Err, arith}
use Rattle.budget_steps.specs.Inputs.{seen, input}
use Rattle.budget_plans.specs.Files.{certificates}
use Rattle.budget_top.specs.RawFiles.{problems}
use Rattle.budget_top.specs.Jobs.{prove_job}
use Rattle.budget_top.specs.Problems.{sound, verdict}
use Rattle.budget_steps.specs.Steps.{◌>>=◌, ◌>>◌}
use Rattle.budget_steps.proofs.Courses.{follows_first, follows_next, follows_exit}
use Rattle.budget_steps.proofs.FileLaws.{IsDuring, reads_first, reads_next}
use Rattle.budget_top.proofs.jobs.prove.Goals as goal

pub returns-in_err-cert-clause-course : goal.returns-in_err-cert-clause-course
returns-in_err-cert-clause-course g c =
    let shelf = seen g.S.Shelf.files g.S.Shelf.faults c.args.shelf.now c.load-2.new.shelf in
    let second = seen g.S.Shelf.files g.S.Shelf.faults c.load.new.shelf c.load-2.new.shelf in
    let during : IsDuring second shelf = record { files = c.load.ensures.files; before = c.load.ensures.later; now = omega arith } in
    let p = c.in_ok-problem.problem in
    let stop = c.in_err-cert.field-0.0 in
    follows_exit (prove_job shelf c.args.problem.now c.args.cert.now) c.from_residual-in_err-cert.result stop c.from_residual-in_err-cert.ensures.1
    (follows_next (input shelf problems c.args.problem.now) (λ p. input shelf certificates c.args.cert.now >>= λ q. sound p >> verdict p q) p (Err stop)
    c.in_ok-problem.ensures.input
    (reads_first certificates c.args.cert.now second shelf (λ q. sound p >> verdict p q) stop during c.in_err-cert.ensures.input))

pub returns-in_err-sound-clause-course : goal.returns-in_err-sound-clause-course
returns-in_err-sound-clause-course g c =
    let shelf = seen g.S.Shelf.files g.S.Shelf.faults c.args.shelf.now c.load-2.new.shelf in
    let second = seen g.S.Shelf.files g.S.Shelf.faults c.load.new.shelf c.load-2.new.shelf in
    let during : IsDuring second shelf = record { files = c.load.ensures.files; before = c.load.ensures.later; now = omega arith } in
    let p = c.in_ok-problem.problem in
    let q = c.in_ok-cert.cert in
    let stop = c.in_err-sound.field-0.0 in
    follows_exit (prove_job shelf c.args.problem.now c.args.cert.now) c.from_residual-in_err-sound.result stop c.from_residual-in_err-sound.ensures.1
    (follows_next (input shelf problems c.args.problem.now) (λ p. input shelf certificates c.args.cert.now >>= λ q. sound p >> verdict p q) p (Err stop)
    c.in_ok-problem.ensures.input
    (reads_next certificates c.args.cert.now second shelf (λ q. sound p >> verdict p q) q (Err stop) during c.in_ok-cert.ensures.input
    (follows_first (sound p) (λ _. verdict p q) stop c.in_err-sound.ensures.course)))

pub returns-clause-course : goal.returns-clause-course
returns-clause-course g c =
    let shelf = seen g.S.Shelf.files g.S.Shelf.faults c.args.shelf.now c.load-2.new.shelf in
    let second = seen g.S.Shelf.files g.S.Shelf.faults c.load.new.shelf c.load-2.new.shelf in
    let during : IsDuring second shelf = record { files = c.load.ensures.files; before = c.load.ensures.later; now = omega arith } in
    let p = c.in_ok-problem.problem in
    let q = c.in_ok-cert.cert in
    follows_next (input shelf problems c.args.problem.now) (λ p. input shelf certificates c.args.cert.now >>= λ q. sound p >> verdict p q) p c.verdict.result
    c.in_ok-problem.ensures.input
    (reads_next certificates c.args.cert.now second shelf (λ q. sound p >> verdict p q) q c.verdict.result during c.in_ok-cert.ensures.input
    (follows_next (sound p) (λ _. verdict p q) tt c.verdict.result c.in_ok-sound.ensures.course c.verdict.ensures))
