-- A certificate of a sound problem holds or has a fault, and not both.
use Rattle.std.proofs.Common.{◌≡◌, ap, sym, ◌∙◌, refl}
use Rattle.bud_base.specs.declared.problems.Problem.{Problem}
use Rattle.cert_text.specs.Certs.{plan_in}
use Rattle.cert_text.specs.declared.certs.Cert.{Cert}
use Rattle.plan_cert.specs.Numbers.{IsNegativeFlow}
use Rattle.plan_cert.specs.Raw.{raw_names, IsRawFault}
use Rattle.plan_cert.proofs.FaultLaws.{fault_apart}
use Rattle.plan_cert.specs.declared.answers.CertFault.{CertFault}
use Rattle.plan_cert.specs.declared.answers.CertFault.TheVariants.{Version, Shape, Bounds, Arrival, Start as LateStart, End as LateEnd, NegativeFlow, Balance, Weight}
use Rattle.plan_cert.specs.declared.answers.CertPlace.{CertPlace}
use Rattle.plan_cert.specs.declared.answers.CertPlace.TheVariants.{Class, Node, Item, Start, End, Count}
use Rattle.budget_report.specs.declared.causes.Cause.TheVariants.{Cert as Uncertified}
use Rattle.budget_report.specs.Certificates.{IsPlace, IsNamed, IsOf}
use Rattle.budget_report.specs.Subjects.{raw}
use Rattle.budget_steps.specs.declared.outcomes.Answer.{Answer}
use Rattle.budget_top.specs.Problems.{IsVerdict}
use Rattle.budget_steps.proofs.Courses.{IsSure}

-- what a fault names is the problem's
place_named : (p : Problem) (cert : Cert) (place : CertPlace) → IsNegativeFlow p (plan_in cert) place → IsPlace p place
place_named p cert (Class k) negative = absurd negative
place_named p cert (Node k) negative = absurd negative
place_named p cert (Item i) negative = negative.within
place_named p cert (Start s) negative = negative.1.within
place_named p cert (End e) negative = negative.2.within
place_named p cert Count negative = absurd negative

pub fault_named : (p : Problem) (cert : Cert) (fault : CertFault) → IsRawFault p cert fault → IsNamed p fault
fault_named p cert (Version a b) fault = tt
fault_named p cert (Shape place) fault = tt
fault_named p cert (Bounds i) fault = fault.2.within
fault_named p cert (Arrival i) fault = fault.2.1.within
fault_named p cert (LateStart s) fault = fault.2.2.within
fault_named p cert (LateEnd e) fault = fault.2.3.within
fault_named p cert (NegativeFlow place) fault = place_named p cert place fault.2.2
fault_named p cert (Balance n) fault = tt
fault_named p cert (Weight weight other) fault = tt

pub fault_of_raw : (p : Problem) (cert : Cert) (fault : CertFault) → IsRawFault p cert fault → IsOf (raw p) fault
fault_of_raw p cert fault given = record { named = fault_named p cert fault given; node = tt; laid_out = tt }

pub verdict_sure : (p : Problem) (cert : Cert) → IsSure (λ a b. a.said.status ≡ b.said.status) (IsVerdict p cert) (λ fault. Uncertified fault)
verdict_sure p cert = record {
  one = λ a b x y. ap (λ (z : Answer). z.said.status) x.1 ∙ sym (ap (λ (z : Answer). z.said.status) y.1);
  apart = λ a fault is x y. fault_apart raw_names p cert fault x.0.holds y;
  status = λ fault other is is' x y. refl;
}
