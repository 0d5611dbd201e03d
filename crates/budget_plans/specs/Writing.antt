-- Words of the functions that put a plan into a certificate and an answer.
use Rattle.std.specs.Prelude.{◌≡◌, ℕ, List, [], ◌∷◌, string_bytes}
use Rattle.bud_plans.specs.declared.plans.Plan.{Plan}
use Rattle.budget_report.specs.declared.statuses.Status.TheVariants.{Done}
use Rattle.budget_steps.specs.declared.outcomes.Answer.{Answer}
use Rattle.budget_steps.specs.declared.outcomes.Write.{Write}
use Rattle.budget_steps.specs.Outcomes.{says}
use Rattle.budget_plans.specs.declared.plans.CertifiedPlan.{CertifiedPlan}
use Rattle.budget_plans.specs.Layouts.{Laid}
use Rattle.budget_plans.specs.Plans.{Certifies}
use Rattle.cert_text.specs.Certs.{plan_in}
use Rattle.cert_text.specs.Texts.{Reads}
use Rattle.cert_text.specs.declared.certs.Cert.{Cert}

-- the bytes read as a certificate of the plan
pub record IsCertText (l : Laid) (plan : Plan) (bytes : List ℕ) : Type 0 where
  pub cert : Cert
  pub certifies : Certifies l cert
  pub plan_is : plan_in cert ≡ plan
  pub reads : Reads bytes cert

-- the summary is said, and one file is to be written: it has this name and holds the certificate
pub record IsWritten (name : List ℕ) (x : CertifiedPlan) (answer : Answer) : Type 0 where
  pub said : answer.said ≡ says Done x.text
  pub file : Write
  pub one : answer.writes ≡ file ∷ []
  pub named : string_bytes file.name ≡ name
  pub bytes : file.bytes ≡ x.bytes
