use Rattle.budget_report.specs.Subjects.{raw}
use Rattle.budget_report.specs.declared.causes.Cause.TheVariants.{Cert as Uncertified}
use Rattle.budget_top.specs.Problems.{IsVerdict}
use Rattle.budget_steps.proofs.Courses.{step_refused}
use Rattle.budget_top.proofs.Verdicts.{fault_of_raw}
use Rattle.budget_top.proofs.problems.verdict.Goals as goal

pub refused-requires : goal.refused-requires
refused-requires c = let answer = rw c.in-Fault.is at c.check_raw.ensures.answer in fault_of_raw c.args.problem.now c.args.cert.now c.in-Fault.fault answer

pub returns : goal.returns
returns c =
    let answer = rw c.in-Fault.is at c.check_raw.ensures.answer in
    step_refused (IsVerdict c.args.problem.now c.args.cert.now) (raw c.args.problem.now) (λ fault. Uncertified fault) c.in-Fault.fault c.refused.result answer c.refused.ensures
