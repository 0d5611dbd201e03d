use Rattle.std.proofs.Common.{◌≡◌, ◌+◌, ◌⊎◌, pos, ◌<ℤ◌, length}
use Rattle.residual.specs.Networks.{excess_at}
use Rattle.residual.specs.Balances.{surplus}
use Rattle.flow_solver.specs.Rounds.{AreRounds}
use Rattle.flow_solver.proofs.Augments.{size_of}
use Rattle.flow_solver.proofs.solving.settle_node.Given as goal

abbrev pub invariant-units : goal.invariant-units
invariant-units g l =
    AreRounds l.fn.net l.net × (length l.front.entries ≡ l.fn.net.nodes + 1)
    × (pos 0 <ℤ excess_at l.fn.net l.node.0 → (excess_at l.net l.node.0 ≡ excess_at l.fn.net l.node.0) ⊎ (surplus l.net <ℤ surplus l.fn.net))

abbrev pub decreases-units : goal.decreases-units
decreases-units g l = size_of (surplus l.net)
