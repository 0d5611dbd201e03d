use Rattle.std.proofs.Common.{ℕ, pos, ◌<◌, ◌≤ℤ◌}
use Rattle.residual.specs.Networks.{excess_at}
use Rattle.flow_solver.proofs.searches.node_with_excess.Given as goal

abbrev pub invariant-loop-node : goal.invariant-loop-node
invariant-loop-node l = (v : ℕ) → v < l.node → excess_at l.net v ≤ℤ pos 0
