use Rattle.std.proofs.Common.{arith}
use Rattle.flow_solver.proofs.Augments.{AreRounds-none, AreRounds-further}
use Rattle.flow_solver.proofs.solving.settle_nodes.Goals as goal

pub loop-node-init : goal.loop-node-init
loop-node-init g c = (AreRounds-none c.args.net.now c.requires.closed c.requires.slack, c.requires.size)

pub settle_node-requires-clause-node : goal.settle_node-requires-clause-node
settle_node-requires-clause-node g c = omega (arith, c.loop-node-test.true, c.requires.fits.nodes, c.loop-node.invariant.0.same.nodes)

pub settle_node-requires-clause-size : goal.settle_node-requires-clause-size
settle_node-requires-clause-size g c = omega (arith, c.loop-node.invariant.1, c.loop-node.invariant.0.same.nodes)

pub loop-node-preserved : goal.loop-node-preserved
loop-node-preserved g c = (
  AreRounds-further c.args.net.now c.loop-node.net c.settle_node.new.net c.loop-node.invariant.0 c.settle_node.ensures.rounds,
  omega (arith, c.settle_node.ensures.size, c.loop-node.invariant.0.same.nodes),
)
