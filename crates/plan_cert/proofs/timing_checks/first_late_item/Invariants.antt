use Rattle.cert_text.specs.Certs.{plan_in}
use Rattle.plan_cert.specs.Failures.{AllBelow}
use Rattle.plan_cert.specs.Numbers.{HasItemArrival}
use Rattle.plan_cert.proofs.timing_checks.first_late_item.Given as goal

abbrev pub invariant-loop-i : goal.invariant-loop-i
invariant-loop-i l = AllBelow (HasItemArrival l.fn.problem (plan_in l.fn.cert)) l.i
