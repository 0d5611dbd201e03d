use Rattle.std.proofs.Common.{◌*ℤ◌}
use Rattle.bud_base.specs.Paths.{end_at}
use Rattle.bud_flow.specs.Sums.{number_at}
use Rattle.cert_text.specs.Certs.{plan_in}
use Rattle.plan_cert.specs.Totals.{IsTotal}
use Rattle.plan_cert.proofs.weights.ends_value.Given as goal

abbrev pub invariant-loop-e : goal.invariant-loop-e
invariant-loop-e l = IsTotal (λ e. number_at (plan_in l.fn.cert).end_flow e *ℤ (end_at l.fn.problem.ends e).require) l.e l.total
