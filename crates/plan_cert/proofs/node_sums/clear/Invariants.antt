use Rattle.std.proofs.Common.{◌≡◌, ◌<◌, ℕ, pos}
use Rattle.bud_flow.specs.Sums.{number_at}
use Rattle.plan_cert.proofs.node_sums.clear.Given as goal

abbrev pub invariant-loop-sum : goal.invariant-loop-sum
invariant-loop-sum l = (k : ℕ) → k < l.sum-index → number_at l.sums k ≡ pos 0
