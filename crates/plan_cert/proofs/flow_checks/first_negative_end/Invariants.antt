use Rattle.cert_text.specs.Certs.{plan_in}
use Rattle.plan_cert.specs.Failures.{AllBelow}
use Rattle.plan_cert.specs.Numbers.{IsEndFlowAt}
use Rattle.plan_cert.proofs.flow_checks.first_negative_end.Given as goal

abbrev pub invariant-loop-e : goal.invariant-loop-e
invariant-loop-e l = AllBelow (IsEndFlowAt (plan_in l.fn.cert)) l.e
