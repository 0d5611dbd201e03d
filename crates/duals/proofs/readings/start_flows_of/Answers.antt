use Rattle.std.proofs.Common.{arith, refl}
use Rattle.std.proofs.lemmas.Int.{ints}
use Rattle.residual.specs.Networks.{start_flow_at}
use Rattle.duals.proofs.TermLemmas.{AreTerms-pushed, AreTerms-same}
use Rattle.duals.proofs.NetFlows.{start_flow-least}
use Rattle.duals.proofs.readings.start_flows_of.Goals as goal

pub loop-start-preserved : goal.loop-start-preserved
loop-start-preserved c =
    AreTerms-pushed (start_flow_at c.args.net.now) c.loop-start.start c.loop-start.flows.items c.push.new.self.items _ c.loop-start.invariant c.in_ok-push.ensures.items
    (omega (
      arith,
      ints,
      c.plan_flow.ensures,
      c.start_flow.ensures,
      c.requires.small c.loop-start.start (omega arith),
      start_flow-least c.args.net.now c.loop-start.start c.requires.lawful (omega arith),
    ))

pub returns : goal.returns
returns c = AreTerms-same (start_flow_at c.args.net.now) c.loop-start.start c.args.count c.loop-start.flows.items c.loop-start.flows.items c.loop-start.invariant refl (omega arith)
