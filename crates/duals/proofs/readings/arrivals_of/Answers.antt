use Rattle.std.proofs.Common.{arith}
use Rattle.std.proofs.lemmas.Int.{ints}
use Rattle.bud_flow.specs.Sums.{number_at}
use Rattle.duals.proofs.TermLemmas.{AreTerms-pushed}
use Rattle.duals.proofs.readings.arrivals_of.Goals as goal

pub loop-node-preserved : goal.loop-node-preserved
loop-node-preserved c = (
  AreTerms-pushed (number_at c.args.net.now.potentials) c.loop-node.node c.loop-node.arrivals.items c.push.new.self.items _ c.loop-node.invariant.0 c.in_ok-push.ensures.items
      (omega (arith, ints, c.loop-node.invariant.1, c.potential.ensures.potential, c.potential.ensures.small)),
  c.loop-node.invariant.1,
)
