-- A certificate of a design holds or has a fault, and not both.
use Rattle.std.proofs.Common.{◌≡◌, ap, sym, ◌∙◌, Ok, Err, refl}
use Rattle.bud_base.specs.declared.problems.Problem.{Problem}
use Rattle.budget_report.specs.Certificates.{IsPlace, IsNamed, HasNode, IsOf}
use Rattle.budget_report.specs.Subjects.{design}
use Rattle.budget_report.specs.declared.causes.Cause.TheVariants.{Cert as Uncertified}
use Rattle.budget_report.specs.declared.statuses.Status.TheVariants.{Words}
use Rattle.budget_steps.specs.declared.outcomes.Answer.{Answer}
use Rattle.budget_steps.specs.Outcomes.{Outcome, said_of}
use Rattle.budget_steps.proofs.Courses.{IsSure, alike_step}
use Rattle.budget_steps.proofs.JobLaws.{IsJob, SameStatus, last}
use Rattle.budget_plans.specs.declared.layouts.Layout.{Layout}
use Rattle.budget_plans.specs.Layouts.{Laid, IsLaid}
use Rattle.budget_plans.specs.Verdicts.{IsVerdict, verdict}
use Rattle.budget_plans.proofs.LaidOut.{of_design}
use Rattle.cert_text.specs.Certs.{plan_in}
use Rattle.cert_text.specs.declared.certs.Cert.{Cert}
use Rattle.design_certs.specs.DesignCerts.{design_names, IsDesignFault}
use Rattle.plan_cert.specs.Numbers.{IsNegativeFlow}
use Rattle.plan_cert.specs.declared.answers.CertFault.{CertFault}
use Rattle.plan_cert.specs.declared.answers.CertFault.TheVariants.{Version, Shape, Bounds, Arrival, Start as LateStart, End as LateEnd, NegativeFlow, Balance, Weight}
use Rattle.plan_cert.specs.declared.answers.CertPlace.{CertPlace}
use Rattle.plan_cert.specs.declared.answers.CertPlace.TheVariants.{Class, Node, Item, Start, End, Count}
use Rattle.plan_cert.proofs.FaultLaws.{fault_apart}

-- ---- what a fault names is the layering's
place_named : (p : Problem) (cert : Cert) (place : CertPlace) → IsNegativeFlow p (plan_in cert) place → IsPlace p place
place_named p cert (Class k) negative = absurd negative
place_named p cert (Node k) negative = absurd negative
place_named p cert (Item i) negative = negative.within
place_named p cert (Start s) negative = negative.1.within
place_named p cert (End e) negative = negative.2.within
place_named p cert Count negative = absurd negative

module _ (x : Layout) (cert : Cert) where
  abbrev IsFault : CertFault → Type 0
  IsFault fault = IsDesignFault x.layered x.design.flat x.design.constraints cert fault

  fault_named : (fault : CertFault) → IsFault fault → IsNamed x.layered.problem fault
  fault_named (Version a b) fault = tt
  fault_named (Shape place) fault = tt
  fault_named (Bounds i) fault = fault.2.within
  fault_named (Arrival i) fault = fault.2.1.within
  fault_named (LateStart s) fault = fault.2.2.within
  fault_named (LateEnd e) fault = fault.2.3.within
  fault_named (NegativeFlow place) fault = place_named x.layered.problem cert place fault.2.2
  fault_named (Balance n) fault = tt
  fault_named (Weight weight other) fault = tt

  fault_node : (fault : CertFault) → IsFault fault → HasNode (design x.layered x.design.flat x.design.constraints) fault
  fault_node (Version a b) fault = tt
  fault_node (Shape place) fault = tt
  fault_node (Bounds i) fault = tt
  fault_node (Arrival i) fault = tt
  fault_node (LateStart s) fault = tt
  fault_node (LateEnd e) fault = tt
  fault_node (NegativeFlow place) fault = tt
  fault_node (Balance n) fault = fault.2.3.within
  fault_node (Weight weight other) fault = tt

  pub fault_of_design : (fault : CertFault) → IsLaid x → IsFault fault → IsOf (design x.layered x.design.flat x.design.constraints) fault
  fault_of_design fault laid given = record { named = fault_named fault given; node = fault_node fault given; laid_out = of_design x laid }

-- ---- the last step of `check`
verdict_sure : (l : Laid) (cert : Cert) → IsSure SameStatus (IsVerdict l cert) (λ fault. Uncertified fault)
verdict_sure l cert = record {
  one = λ a b x y. ap (λ (z : Answer). z.said.status) x.1 ∙ sym (ap (λ (z : Answer). z.said.status) y.1);
  apart = λ a fault is x y. fault_apart (design_names l.layered l.timed.design l.timed.constraints) l.layered.problem cert fault x.0.holds y;
  status = λ fault other is is' x y. refl;
}

verdict_fits : (l : Laid) (cert : Cert) (outcome : Outcome) → verdict l cert outcome → (said_of outcome).status ≡ Words → ⊥
verdict_fits l cert (Ok answer) came e = let done = ap (λ (a : Answer). a.said.status) came.1 in cc
verdict_fits l cert (Err r) came e = let e' = came.1.1.1 in cc

pub verdict_job : (l : Laid) (cert : Cert) → IsJob (λ shelf. verdict l cert)
verdict_job l cert =
    last (verdict l cert)
    (alike_step SameStatus ⊥ (IsVerdict l cert) (design l.layered l.timed.design l.timed.constraints) (λ fault. Uncertified fault) (verdict_sure l cert))
    (verdict_fits l cert)
