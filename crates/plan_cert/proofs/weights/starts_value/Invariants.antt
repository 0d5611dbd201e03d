use Rattle.std.proofs.Common.{◌*ℤ◌}
use Rattle.bud_base.specs.Paths.{start_at}
use Rattle.bud_flow.specs.Sums.{number_at}
use Rattle.cert_text.specs.Certs.{plan_in}
use Rattle.plan_cert.specs.Totals.{IsTotal}
use Rattle.plan_cert.proofs.weights.starts_value.Given as goal

abbrev pub invariant-loop-s : goal.invariant-loop-s
invariant-loop-s l = IsTotal (λ s. number_at (plan_in l.fn.cert).start_flow s *ℤ (start_at l.fn.problem.starts s).offset) l.s l.total
