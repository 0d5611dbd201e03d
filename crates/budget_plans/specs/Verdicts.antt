-- What `check` answers: the weight of a certificate that holds, or its first fault.
use Rattle.std.specs.Prelude.{◌≡◌, Result, Ok, Err}
use Rattle.budget_report.specs.Certificates.{holds_text}
use Rattle.budget_report.specs.Subjects.{design}
use Rattle.budget_report.specs.declared.causes.Cause.TheVariants.{Cert as Uncertified}
use Rattle.budget_steps.specs.declared.outcomes.Answer.{Answer}
use Rattle.budget_steps.specs.Outcomes.{done}
use Rattle.budget_steps.specs.Steps.{Course, step}
use Rattle.budget_plans.specs.Layouts.{Laid}
use Rattle.budget_plans.specs.Plans.{Certifies}
use Rattle.cert_text.specs.declared.certs.Cert.{Cert}
use Rattle.design_certs.specs.DesignCerts.{IsDesignFault}
use Rattle.plan_cert.specs.declared.answers.CertFault.{CertFault}

-- the certificate holds, whoever wrote it, and its weight is printed; or this is its first fault
abbrev pub IsVerdict : Laid → Cert → Result Answer CertFault → Type 0
IsVerdict l cert (Ok answer) = Certifies l cert × (answer ≡ done (holds_text cert.weight))
IsVerdict l cert (Err fault) = IsDesignFault l.layered l.timed.design l.timed.constraints cert fault

abbrev pub verdict : Laid → Cert → Course Answer
verdict l cert = step (IsVerdict l cert) (design l.layered l.timed.design l.timed.constraints) (λ fault. Uncertified fault)
