use Rattle.std.proofs.Common.{pos, ◌*ℤ◌}
use Rattle.bud_base.specs.Paths.{item_at}
use Rattle.bud_flow.specs.Sums.{number_at}
use Rattle.cert_text.specs.Certs.{plan_in}
use Rattle.plan_cert.specs.Totals.{IsTotal}
use Rattle.plan_cert.proofs.weights.budgets_weight.Given as goal

abbrev pub invariant-loop-i : goal.invariant-loop-i
invariant-loop-i l = IsTotal (λ i. pos (item_at l.fn.problem.items i).weight *ℤ number_at (plan_in l.fn.cert).budgets i) l.i l.total
