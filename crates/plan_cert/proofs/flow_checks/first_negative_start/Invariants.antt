use Rattle.cert_text.specs.Certs.{plan_in}
use Rattle.plan_cert.specs.Failures.{AllBelow}
use Rattle.plan_cert.specs.Numbers.{IsStartFlowAt}
use Rattle.plan_cert.proofs.flow_checks.first_negative_start.Given as goal

abbrev pub invariant-loop-s : goal.invariant-loop-s
invariant-loop-s l = AllBelow (IsStartFlowAt (plan_in l.fn.cert)) l.s
