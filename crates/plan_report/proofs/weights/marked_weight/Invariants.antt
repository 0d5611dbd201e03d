use Rattle.plan_cert.specs.Totals.{IsTotal}
use Rattle.plan_report.specs.Weights.{marked_term}
use Rattle.plan_report.proofs.weights.marked_weight.Given as goal

abbrev pub invariant-loop-i : goal.invariant-loop-i
invariant-loop-i l = IsTotal (marked_term l.marks l.problem l.plan.budgets) l.i l.total
