use Rattle.bud_base.specs.Paths.{item_at}
use Rattle.bud_flow.specs.Sums.{number_at}
use Rattle.bud_flow.specs.Flows.{item_value}
use Rattle.cert_text.specs.Certs.{plan_in}
use Rattle.plan_cert.specs.Totals.{IsTotal}
use Rattle.plan_cert.proofs.weights.items_value.Given as goal

abbrev pub invariant-loop-i : goal.invariant-loop-i
invariant-loop-i l = IsTotal (λ i. item_value (item_at l.fn.problem.items i) (number_at (plan_in l.fn.cert).flow i)) l.i l.total
