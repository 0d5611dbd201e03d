-- The certificate of a plan that holds shows that its budgets are best.
use Rattle.std.proofs.Common.{sym, ◌∙◌, List, ℕ, Result, Ok, Err, IfOk}
use Rattle.std.specs.declared.alloc.AllocError.{AllocError}
use Rattle.bud_base.specs.Soundness.{IsSound}
use Rattle.bud_base.specs.declared.problems.Problem.{Problem}
use Rattle.bud_plans.proofs.Duality.{AreBest-from_plan}
use Rattle.cert_text.specs.Certs.{plan_in}
use Rattle.cert_text.specs.Texts.{Reads}
use Rattle.cert_text.specs.declared.certs.Cert.{Cert}
use Rattle.plan_cert.specs.Raw.{IsRawCert}
use Rattle.budget_top.specs.Problems.{Certifies, IsCertText}

pub certifies : (p : Problem) (cert : Cert) → IsSound p → IsRawCert p cert → Certifies p cert
certifies p cert sound good = record {
  holds = good;
  best = AreBest-from_plan p (plan_in cert) sound good.plan;
  proves = record { balanced = good.plan.balanced; value = good.plan.value ∙ sym good.plan.weight };
}

-- a text that reads as such a certificate
pub cert_text : (p : Problem) (cert : Cert) (r : Result (List ℕ) AllocError) → Certifies p cert → IfOk r (λ text. Reads text cert) → IfOk r (IsCertText p)
cert_text p cert (Ok text) good reads = (cert, (reads, good))
cert_text p cert (Err e) good reads = reads
