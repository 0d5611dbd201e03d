use Rattle.cert_text.specs.Certs.{plan_in}
use Rattle.plan_cert.specs.Failures.{AllBelow}
use Rattle.plan_cert.specs.Numbers.{HasEndArrival}
use Rattle.plan_cert.proofs.timing_checks.first_late_end.Given as goal

abbrev pub invariant-loop-e : goal.invariant-loop-e
invariant-loop-e l = AllBelow (HasEndArrival l.fn.problem (plan_in l.fn.cert)) l.e
