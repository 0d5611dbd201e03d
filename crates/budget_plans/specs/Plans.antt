-- What `plan` answers: the summary of budgets that are best over the constrained paths, with their certificate; or a worst
-- violated path.
use Rattle.std.specs.Prelude.{◌≡◌, ℕ, ℤ, pos, ◌≤ℤ◌, List, [], ◌∷◌, Option, Some, None, Ok, Err, string_bytes}
use Rattle.bud_plans.specs.Plans.{ProvesBudgets, flow_of}
use Rattle.bud_plans.specs.declared.plans.Plan.{Plan}
use Rattle.bud_design.specs.TimingPaths.{View, TimingPath, HasSlack, IsLeastPathSlack}
use Rattle.budget_report.specs.declared.statuses.Status.{Status}
use Rattle.budget_report.specs.declared.statuses.Status.TheVariants.{Done, Violated}
use Rattle.budget_steps.specs.declared.outcomes.Answer.{Answer}
use Rattle.budget_steps.specs.declared.outcomes.Write.{Write}
use Rattle.budget_steps.specs.Steps.{Course}
use Rattle.budget_designs.specs.Slacks.{HasNoConstrainedPath, IsMeasured}
use Rattle.budget_plans.specs.declared.plans.CertifiedPlan.{CertifiedPlan}
use Rattle.budget_plans.specs.Layouts.{Laid, view_in}
use Rattle.cert_text.specs.Certs.{plan_in}
use Rattle.cert_text.specs.Texts.{Reads}
use Rattle.cert_text.specs.declared.certs.Cert.{Cert}
use Rattle.design_certs.specs.DesignCerts.{IsDesignCert}
use Rattle.layer_laws.specs.DesignBudgets.{AreBestOfDesign}
use Rattle.plan_report.specs.Summaries.{summary_text}

-- The certificate holds for the layering: its budgets suit all constrained paths of the design, none that do weigh more, and
-- its flow proves it.
pub record Certifies (l : Laid) (cert : Cert) : Type 0 where
  pub holds : IsDesignCert l.layered l.timed.design l.timed.constraints cert
  pub best : AreBestOfDesign (view_in l) l.layered (plan_in cert).budgets
  pub proves : ProvesBudgets l.layered.problem (plan_in cert).budgets (flow_of (plan_in cert))

-- no path is constrained, or the least slack of the constrained paths is this, and at least 0
abbrev pub IsMetSlack : View → Option ℤ → Type 0
IsMetSlack w None = HasNoConstrainedPath w
IsMetSlack w (Some s) = IsLeastPathSlack w s × (pos 0 ≤ℤ s)

-- every constrained path has a slack of at least 0
abbrev pub MeetsConstrained : View → Type 0
MeetsConstrained w = (path : TimingPath) (s : ℤ) → HasSlack w path s → pos 0 ≤ℤ s

abbrev pub plan_text : Laid → Option ℤ → Plan → List ℕ
plan_text l slack plan = summary_text l.layered l.timed.design l.timed.arcs l.timed.constraints l.timed.timing l.policy.lines slack plan

-- a best plan, bytes that read as its certificate, and its summary
pub record IsCertified (l : Laid) (slack : Option ℤ) (x : CertifiedPlan) : Type 0 where
  pub cert : Cert
  pub certifies : Certifies l cert
  pub plan : plan_in cert ≡ x.plan
  pub reads : Reads x.bytes cert
  pub text : x.text ≡ plan_text l slack (plan_in cert)

-- one file is written: it has this name, and its bytes read as the certificate
pub record WritesCert (name : List ℕ) (cert : Cert) (writes : List Write) : Type 0 where
  pub file : Write
  pub one : writes ≡ file ∷ []
  pub named : string_bytes file.name ≡ name
  pub reads : Reads file.bytes cert

-- a certificate of best budgets is written, and their summary is printed
pub record IsPlanned (l : Laid) (certificate : List ℕ) (text : List ℕ) (writes : List Write) : Type 0 where
  pub slack : Option ℤ
  pub met : IsMetSlack (view_in l) slack
  pub cert : Cert
  pub certifies : Certifies l cert
  pub text_is : text ≡ plan_text l slack (plan_in cert)
  pub written : WritesCert certificate cert writes

-- where a constrained path is violated, a worst one is printed as `least` prints it, and nothing is written
abbrev pub IsPlanAnswer : Laid → List ℕ → Status → List ℕ → List Write → Type 0
IsPlanAnswer l certificate Done text writes = IsPlanned l certificate text writes
IsPlanAnswer l certificate Violated text writes = IsMeasured (view_in l) Violated text × (writes ≡ [])
IsPlanAnswer l certificate other text writes = ⊥

abbrev pub planned : Laid → List ℕ → Course Answer
planned l certificate (Ok answer) = IsPlanAnswer l certificate answer.said.status answer.said.text answer.writes
planned l certificate (Err r) = ⊥

-- a design that is laid out and meets
abbrev pub met : Laid → Course (Unit {0})
met l (Ok _) = MeetsConstrained (view_in l)
met l (Err r) = ⊥
