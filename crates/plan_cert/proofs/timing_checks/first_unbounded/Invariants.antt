use Rattle.bud_plans.specs.Budgets.{IsWithinBounds}
use Rattle.cert_text.specs.Certs.{plan_in}
use Rattle.plan_cert.specs.Failures.{AllBelow}
use Rattle.plan_cert.proofs.timing_checks.first_unbounded.Given as goal

abbrev pub invariant-loop-i : goal.invariant-loop-i
invariant-loop-i l = AllBelow (IsWithinBounds l.fn.problem (plan_in l.fn.cert).budgets) l.i
