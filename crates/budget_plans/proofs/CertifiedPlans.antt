-- The certificate of a plan that holds certifies that its budgets are best over the constrained paths of the design.
use Rattle.std.proofs.Common.{◌≡◌, ℕ, ℤ, List, Option, Result, Ok, Err, IfOk, ap, sym, ◌∙◌, subst}
use Rattle.std.specs.declared.alloc.AllocError.{AllocError}
use Rattle.bud_plans.specs.declared.plans.Plan.{Plan}
use Rattle.bud_plans.proofs.Duality.{AreBest-from_plan}
use Rattle.budget_report.specs.declared.statuses.Status.{Status}
use Rattle.budget_steps.specs.declared.outcomes.Answer.{Answer}
use Rattle.budget_steps.specs.declared.outcomes.Said.{Said}
use Rattle.budget_plans.specs.declared.layouts.Layout.{Layout}
use Rattle.budget_plans.specs.declared.plans.CertifiedPlan.{CertifiedPlan}
use Rattle.budget_plans.specs.Layouts.{Laid, IsLaid, laid_of, view_in}
use Rattle.budget_plans.specs.Plans.{Certifies, IsCertified, IsMetSlack, IsPlanAnswer, plan_text, planned}
use Rattle.budget_plans.specs.Writing.{IsCertText, IsWritten}
use Rattle.cert_text.specs.Certs.{plan_in}
use Rattle.cert_text.specs.Texts.{Reads}
use Rattle.cert_text.specs.declared.certs.Cert.{Cert}
use Rattle.design_certs.specs.DesignCerts.{IsDesignCert}
use Rattle.layer_laws.proofs.DesignBudgets.{AreBestOfDesign-from_best}

pub certifies : (x : Layout) (cert : Cert) → IsLaid x → IsDesignCert x.layered x.design.flat x.design.constraints cert → Certifies (laid_of x) cert
certifies x cert laid good = record {
  holds = good;
  best = AreBestOfDesign-from_best (view_in (laid_of x)) x.layered laid.paths (plan_in cert).budgets (AreBest-from_plan x.layered.problem (plan_in cert) laid.layered.problem good.plan);
  proves = record { balanced = good.plan.balanced; value = good.plan.value ∙ sym good.plan.weight };
}

-- bytes that read as such a certificate
pub cert_text : (l : Laid) (cert : Cert) (plan : Plan) (r : Result (List ℕ) AllocError) → Certifies l cert → plan_in cert ≡ plan → IfOk r (λ bytes. Reads bytes cert) → IfOk r (IsCertText l plan)
cert_text l cert plan (Ok bytes) good same reads = record { cert = cert; certifies = good; plan_is = same; reads = reads }
cert_text l cert plan (Err e) good same reads = reads

-- with the summary
pub certified : (l : Laid) (slack : Option ℤ) (x : CertifiedPlan) → IsCertText l x.plan x.bytes → x.text ≡ plan_text l slack x.plan → IsCertified l slack x
certified l slack x made text = record {
  cert = made.cert;
  certifies = made.certifies;
  plan = made.plan_is;
  reads = made.reads;
  text = text ∙ ap (plan_text l slack) (sym made.plan_is);
}

-- ---- the answer
pub planned_by : (l : Laid) (slack : Option ℤ) (name : List ℕ) (x : CertifiedPlan) (answer : Answer) → IsMetSlack (view_in l) slack → IsCertified l slack x → IsWritten name x answer → planned l name (Ok answer)
planned_by l slack name x answer good made written =
    subst (λ (s : Status). IsPlanAnswer l name s answer.said.text answer.writes) (sym (ap (λ (s : Said). s.status) written.said))
    (record {
      slack = slack;
      met = good;
      cert = made.cert;
      certifies = made.certifies;
      text_is = ap (λ (s : Said). s.text) written.said ∙ made.text;
      written = record {
        file = written.file;
        one = written.one;
        named = written.named;
        reads = subst (λ (bytes : List ℕ). Reads bytes made.cert) (sym written.bytes) made.reads;
      };
    })
