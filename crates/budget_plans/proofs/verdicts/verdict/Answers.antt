use Rattle.std.proofs.Common.{rules}
use Rattle.budget_report.specs.Subjects.{design}
use Rattle.budget_report.specs.declared.causes.Cause.TheVariants.{Cert as Uncertified}
use Rattle.budget_steps.proofs.Courses.{step_refused}
use Rattle.budget_plans.specs.Layouts.{laid_of}
use Rattle.budget_plans.specs.Verdicts.{IsVerdict}
use Rattle.budget_plans.proofs.CertifiedPlans.{certifies}
use Rattle.budget_plans.proofs.LaidOut.{of_design, few_classes}
use Rattle.budget_plans.proofs.VerdictLaws.{fault_of_design}
use Rattle.budget_plans.proofs.verdicts.verdict.Goals as goal

pub check_cert-requires-clause-layered : goal.check_cert-requires-clause-layered
check_cert-requires-clause-layered c = of_design c.args.layout.now c.requires.laid

pub check_cert-requires-clause-classes : goal.check_cert-requires-clause-classes
check_cert-requires-clause-classes c = few_classes c.args.layout.now c.requires.laid

pub refused-requires : goal.refused-requires
refused-requires c =
    let answer = rw c.in-Fault.is at c.check_cert.ensures.answer in
    fault_of_design c.args.layout.now c.args.cert.now c.in-Fault.fault c.requires.laid answer

pub returns : goal.returns
returns c =
    let x = c.args.layout.now in
    let answer = rw c.in-Fault.is at c.check_cert.ensures.answer in
    step_refused (IsVerdict (laid_of x) c.args.cert.now) (design x.layered x.design.flat x.design.constraints) (λ fault. Uncertified fault) c.in-Fault.fault c.refused.result answer c.refused.ensures

pub returns-in-Holds : goal.returns-in-Holds
returns-in-Holds c =
    let answer = rw c.in-Holds.is at c.check_cert.ensures.answer in
    (certifies c.args.layout.now c.args.cert.now c.requires.laid answer.0, search rules)
