use Rattle.std.proofs.Common.{◌≡◌, ◌+◌, length}
use Rattle.flow_solver.specs.Rounds.{AreRounds}
use Rattle.flow_solver.proofs.solving.settle_nodes.Given as goal

abbrev pub invariant-loop-node : goal.invariant-loop-node
invariant-loop-node g l = AreRounds l.fn.net l.net × (length l.front.entries ≡ l.fn.net.nodes + 1)
