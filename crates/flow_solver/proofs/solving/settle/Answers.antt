use Rattle.std.proofs.Common.{arith}
use Rattle.std.proofs.lemmas.Int.{ints}
use Rattle.flow_solver.proofs.Augments.{AreRounds-none, AreRounds-further, HasNoExcess-none, size-falls}
use Rattle.flow_solver.proofs.solving.settle.Goals as goal

pub rounds-init : goal.rounds-init
rounds-init g c = (AreRounds-none c.args.net.now c.requires.closed c.requires.slack, c.requires.size)

pub rounds-preserved : goal.rounds-preserved
rounds-preserved g c = (
  AreRounds-further c.args.net.now c.settle_node.new.net c.settle_nodes.new.net
      (AreRounds-further c.args.net.now c.rounds.net c.settle_node.new.net c.rounds.invariant.0 c.settle_node.ensures.rounds) c.settle_nodes.ensures.rounds,
  omega (arith, c.settle_nodes.ensures.size, c.settle_node.ensures.rounds.same.nodes, c.rounds.invariant.0.same.nodes),
)

pub rounds-smaller : goal.rounds-smaller
rounds-smaller g c =
    size-falls c.rounds.net c.settle_nodes.new.net (omega (arith, ints, c.settle_node.ensures.less c.in-Some.ensures.answer.1, c.settle_nodes.ensures.rounds.fallen))

pub returns-clause-balanced : goal.returns-clause-balanced
returns-clause-balanced g c = HasNoExcess-none c.rounds.net c.in_default.ensures.lawful c.in_default.ensures.answer
