-- A certificate holds or has a fault, and not both.
use Rattle.std.proofs.Common.{pos, arith, sym, ◌∙◌, inl, inr}
use Rattle.bud_base.specs.declared.problems.Problem.{Problem}
use Rattle.cert_text.specs.Certs.{plan_in}
use Rattle.cert_text.specs.declared.certs.Cert.{Cert}
use Rattle.plan_cert.specs.Names.{Names}
use Rattle.plan_cert.specs.Certificates.{IsWrongLine, IsCertOf, IsCertFault}
use Rattle.plan_cert.specs.Numbers.{IsNegativeFlow}
use Rattle.plan_cert.specs.declared.answers.CertFault.{CertFault}
use Rattle.plan_cert.specs.declared.answers.CertFault.TheVariants.{Version, Shape, Bounds, Arrival, Start as LateStart, End as LateEnd, NegativeFlow, Balance, Weight}
use Rattle.plan_cert.specs.declared.answers.CertPlace.{CertPlace}
use Rattle.plan_cert.specs.declared.answers.CertPlace.TheVariants.{Class, Node, Item, Start, End, Count}

-- a certificate that holds has the problem's lines
lines_apart : (names : Names) (p : Problem) (cert : Cert) (place : CertPlace) → IsCertOf names p cert → IsWrongLine names p cert place → ⊥
lines_apart names p cert (Class k) good wrong = wrong.fails (good.lines.classes k wrong.within)
lines_apart names p cert (Node k) good wrong = wrong.1.fails (good.lines.nodes k wrong.1.within)
lines_apart names p cert (Item i) good wrong = wrong.2.fails (good.lines.items i wrong.2.within)
lines_apart names p cert (Start s) good wrong = wrong.3.fails (good.lines.starts s wrong.3.within)
lines_apart names p cert (End e) good wrong = wrong.4.fails (good.lines.ends e wrong.4.within)
lines_apart names p cert Count good wrong = wrong.5 good.lines.counts

-- and no flow below 0
negative_apart : (names : Names) (p : Problem) (cert : Cert) (place : CertPlace) → IsCertOf names p cert → IsNegativeFlow p (plan_in cert) place → ⊥
negative_apart names p cert (Class k) good negative = absurd negative
negative_apart names p cert (Node k) good negative = absurd negative
negative_apart names p cert (Item i) good negative =
    let balanced = good.plan.balanced in
    negative.fails (balanced.items i (pos 0) (omega (arith, negative.within, balanced.sizes.items)))
negative_apart names p cert (Start s) good negative =
    let balanced = good.plan.balanced in
    negative.1.fails (balanced.starts s (pos 0) (omega (arith, negative.1.within, balanced.sizes.starts)))
negative_apart names p cert (End e) good negative =
    let balanced = good.plan.balanced in
    negative.2.fails (balanced.ends e (pos 0) (omega (arith, negative.2.within, balanced.sizes.ends)))
negative_apart names p cert Count good negative = absurd negative

-- a certificate that holds has no fault
pub fault_apart : (names : Names) (p : Problem) (cert : Cert) (fault : CertFault) → IsCertOf names p cert → IsCertFault names p cert fault → ⊥
fault_apart names p cert (Version a b) good fault = fault.2 (fault.0 ∙ sym (fault.1 ∙ good.version))
fault_apart names p cert (Shape place) good fault = lines_apart names p cert place good fault.1
fault_apart names p cert (Bounds i) good fault = fault.2.fails (good.plan.bounds.each i.0 fault.2.within)
fault_apart names p cert (Arrival i) good fault = fault.2.1.fails (good.plan.arrivals.suit.items i.0 fault.2.1.within)
fault_apart names p cert (LateStart s) good fault = fault.2.2.fails (good.plan.arrivals.suit.starts s fault.2.2.within)
fault_apart names p cert (LateEnd e) good fault = fault.2.3.fails (good.plan.arrivals.suit.ends e fault.2.3.within)
fault_apart names p cert (NegativeFlow place) good fault = negative_apart names p cert place good fault.2.2
fault_apart names p cert (Balance n) good fault = fault.2.3.fails (good.plan.balanced.kept n.0 fault.2.3.within)
fault_apart names p cert (Weight weight other) good fault =
    let wrong = fault.2.3 in
    wrong.differs (elim wrong.other_is [
      | inl written ↦ sym wrong.weight_is ∙ (good.plan.weight ∙ written)
      | inr value ↦ sym wrong.weight_is ∙ (good.plan.weight ∙ (sym good.plan.value ∙ value.1))
    ])
