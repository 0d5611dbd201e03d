use Rattle.std.proofs.Common.{arith, refl}
use Rattle.std.proofs.lemmas.Int.{ints}
use Rattle.residual.specs.Networks.{end_flow_at}
use Rattle.duals.proofs.TermLemmas.{AreTerms-pushed, AreTerms-same}
use Rattle.duals.proofs.NetFlows.{end_flow-least}
use Rattle.duals.proofs.readings.end_flows_of.Goals as goal

pub loop-end-preserved : goal.loop-end-preserved
loop-end-preserved c =
    AreTerms-pushed (end_flow_at c.args.net.now) c.loop-end.end c.loop-end.flows.items c.push.new.self.items _ c.loop-end.invariant c.in_ok-push.ensures.items
    (omega (
      arith,
      ints,
      c.plan_flow.ensures,
      c.end_flow.ensures,
      c.requires.small c.loop-end.end (omega arith),
      end_flow-least c.args.net.now c.loop-end.end c.requires.lawful (omega arith),
    ))

pub returns : goal.returns
returns c = AreTerms-same (end_flow_at c.args.net.now) c.loop-end.end c.args.count c.loop-end.flows.items c.loop-end.flows.items c.loop-end.invariant refl (omega arith)
