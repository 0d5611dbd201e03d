use Rattle.cert_text.specs.Certs.{plan_in}
use Rattle.plan_cert.specs.Failures.{AllBelow}
use Rattle.plan_cert.specs.Numbers.{IsFlowAt}
use Rattle.plan_cert.proofs.flow_checks.first_negative_item.Given as goal

abbrev pub invariant-loop-i : goal.invariant-loop-i
invariant-loop-i l = AllBelow (IsFlowAt (plan_in l.fn.cert)) l.i
