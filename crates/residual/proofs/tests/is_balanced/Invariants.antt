use Rattle.std.proofs.Common.{◌≡◌, ◌<◌, ℕ, pos}
use Rattle.residual.specs.Networks.{excess_at}
use Rattle.residual.proofs.tests.is_balanced.Given as goal

abbrev pub invariant-loop-node : goal.invariant-loop-node
invariant-loop-node l = (v : ℕ) → v < l.node → excess_at l.net v ≡ pos 0
