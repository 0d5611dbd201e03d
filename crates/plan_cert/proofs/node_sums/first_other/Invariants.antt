use Rattle.std.proofs.Common.{◌≡◌, pos}
use Rattle.bud_flow.specs.Sums.{number_at}
use Rattle.plan_cert.specs.Failures.{AllBelow}
use Rattle.plan_cert.proofs.node_sums.first_other.Given as goal

abbrev pub invariant-loop-node : goal.invariant-loop-node
invariant-loop-node l = AllBelow (λ node. number_at l.sums node ≡ pos 0) l.node
