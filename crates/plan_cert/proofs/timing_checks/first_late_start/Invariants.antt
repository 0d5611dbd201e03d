use Rattle.cert_text.specs.Certs.{plan_in}
use Rattle.plan_cert.specs.Failures.{AllBelow}
use Rattle.plan_cert.specs.Numbers.{HasStartArrival}
use Rattle.plan_cert.proofs.timing_checks.first_late_start.Given as goal

abbrev pub invariant-loop-s : goal.invariant-loop-s
invariant-loop-s l = AllBelow (HasStartArrival l.fn.problem (plan_in l.fn.cert)) l.s
