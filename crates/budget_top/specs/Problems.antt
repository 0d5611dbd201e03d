-- The steps on a raw problem and its certificate.
use Rattle.std.specs.Prelude.{◌≡◌, ◌⊎◌, ◌≤ℤ◌, ◌<ℤ◌, ◌++◌, ℕ, ℤ, pos, List, [], Result, Ok, Err}
use Rattle.bud_base.specs.Paths.{Path, IsLeastSlack, IsPathOfSlack, HasNoPath}
use Rattle.bud_base.specs.Soundness.{IsSound, IsCheckAnswer}
use Rattle.bud_base.specs.declared.problems.Problem.{Problem}
use Rattle.bud_base.specs.declared.checks.ProblemFault.{ProblemFault}
use Rattle.bud_plans.specs.Budgets.{AreBest}
use Rattle.bud_plans.specs.Plans.{ProvesBudgets, flow_of}
use Rattle.cert_text.specs.Certs.{plan_in}
use Rattle.cert_text.specs.Texts.{Reads}
use Rattle.cert_text.specs.declared.certs.Cert.{Cert}
use Rattle.plan_cert.specs.Raw.{IsRawCert, IsRawFault}
use Rattle.plan_cert.specs.declared.answers.CertFault.{CertFault}
use Rattle.budget_report.specs.declared.statuses.Status.{Status}
use Rattle.budget_report.specs.declared.statuses.Status.TheVariants.{Done, Violated}
use Rattle.budget_report.specs.declared.causes.Cause.TheVariants.{Problem as Unsound, Cert as Uncertified}
use Rattle.budget_report.specs.Subjects.{raw}
use Rattle.budget_report.specs.Certificates.{holds_text}
use Rattle.budget_report.specs.Violations.{meets_text, no_paths_text, violated_text}
use Rattle.budget_steps.specs.declared.outcomes.Answer.{Answer}
use Rattle.budget_steps.specs.Outcomes.{done}
use Rattle.budget_steps.specs.Steps.{Course, step}

-- the problem is sound, or has this first fault
abbrev pub IsSoundness : Problem → Result (Unit {0}) ProblemFault → Type 0
IsSoundness p (Ok _) = IsSound p
IsSoundness p (Err fault) = IsCheckAnswer p (Err fault)

abbrev pub sound : Problem → Course (Unit {0})
sound p = step (IsSoundness p) (raw p) (λ fault. Unsound fault)

-- the certificate holds: its budgets are best over all paths, and its flow proves them
pub record Certifies (p : Problem) (cert : Cert) : Type 0 where
  pub holds : IsRawCert p cert
  pub best : AreBest p (plan_in cert).budgets
  pub proves : ProvesBudgets p (plan_in cert).budgets (flow_of (plan_in cert))

-- the certificate holds, and its weight is printed, or it has this first fault
abbrev pub IsVerdict : Problem → Cert → Result Answer CertFault → Type 0
IsVerdict p cert (Ok answer) = Certifies p cert × (answer ≡ done (holds_text cert.weight))
IsVerdict p cert (Err fault) = IsRawFault p cert fault

abbrev pub verdict : Problem → Cert → Course Answer
verdict p cert = step (IsVerdict p cert) (raw p) (λ fault. Uncertified fault)

-- a first line: no paths, or the least slack, which is at least 0
abbrev pub IsFirstLine : Problem → List ℕ → Type 0
IsFirstLine p line = (HasNoPath p × (line ≡ no_paths_text)) ⊎ ((s : ℤ) × (IsLeastSlack p s × (pos 0 ≤ℤ s) × (line ≡ meets_text s)))

-- the text reads as a certificate that holds
abbrev pub IsCertText : Problem → List ℕ → Type 0
IsCertText p text = (cert : Cert) × (Reads text cert × Certifies p cert)

-- a first line and a certificate of best budgets, or a worst violated path
abbrev pub IsMeasured : Problem → Status → List ℕ → Type 0
IsMeasured p Done text = (line : List ℕ) × ((rest : List ℕ) × (IsFirstLine p line × IsCertText p rest × (text ≡ line ++ rest)))
IsMeasured p Violated text = (s : ℤ) × ((path : Path) × (IsLeastSlack p s × (s <ℤ pos 0) × IsPathOfSlack p s path × (text ≡ violated_text p s path)))
IsMeasured p _ text = ⊥

abbrev pub measured : Problem → Course Answer
measured p (Ok answer) = IsMeasured p answer.said.status answer.said.text × (answer.writes ≡ [])
measured p (Err r) = ⊥
