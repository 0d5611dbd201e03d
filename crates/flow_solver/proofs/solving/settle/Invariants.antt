use Rattle.std.proofs.Common.{◌≡◌, ◌+◌, length}
use Rattle.residual.specs.Balances.{surplus}
use Rattle.flow_solver.specs.Rounds.{AreRounds}
use Rattle.flow_solver.proofs.Augments.{size_of}
use Rattle.flow_solver.proofs.solving.settle.Given as goal

abbrev pub invariant-rounds : goal.invariant-rounds
invariant-rounds g l = AreRounds l.fn.net l.net × (length l.front.entries ≡ l.fn.net.nodes + 1)

abbrev pub decreases-rounds : goal.decreases-rounds
decreases-rounds g l = size_of (surplus l.net)
