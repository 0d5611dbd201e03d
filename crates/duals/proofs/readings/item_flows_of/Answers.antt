use Rattle.std.proofs.Common.{arith, refl}
use Rattle.std.proofs.lemmas.Int.{ints}
use Rattle.residual.specs.Networks.{item_flow_at}
use Rattle.duals.proofs.TermLemmas.{AreTerms-pushed, AreTerms-same}
use Rattle.duals.proofs.NetFlows.{item_flow-least}
use Rattle.duals.proofs.readings.item_flows_of.Goals as goal

pub loop-item-preserved : goal.loop-item-preserved
loop-item-preserved c =
    AreTerms-pushed (item_flow_at c.args.net.now) c.loop-item.item c.loop-item.flows.items c.push.new.self.items _ c.loop-item.invariant c.in_ok-push.ensures.items
    (omega (
      arith,
      ints,
      c.plan_flow.ensures,
      c.item_flow.ensures,
      c.requires.small c.loop-item.item (omega arith),
      item_flow-least c.args.net.now c.loop-item.item c.requires.lawful (omega arith),
    ))

pub returns : goal.returns
returns c = AreTerms-same (item_flow_at c.args.net.now) c.loop-item.item c.args.count c.loop-item.flows.items c.loop-item.flows.items c.loop-item.invariant refl (omega arith)
