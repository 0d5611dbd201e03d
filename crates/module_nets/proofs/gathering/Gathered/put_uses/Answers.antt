use Rattle.std.proofs.Common.{List, take, subst}
use Rattle.std.specs.List.{flat_map}
use Rattle.module_nets.specs.Gathering.{Gathers, with_uses}
use Rattle.module_nets.specs.Numbers.{Net}
use Rattle.module_nets.proofs.GatherSteps.{uses_more}
use Rattle.module_nets.proofs.gathering.Gathered.put_uses.Goals as goal

pub loop-item-preserved : goal.loop-item-preserved
loop-item-preserved g c = λ ports nets so_far.
    let P : List Net → Type 0 = λ ns. Gathers ports ns c.gather.new.into in
    subst P (uses_more g.T.NetUse.names_of c.args.items.now c.loop-item.item-index c.item-item.result ports nets c.loop-item-test.true c.item-item.is)
    (c.in_ok-gather.ensures.gathered ports (with_uses ports nets (flat_map g.T.NetUse.names_of (take c.loop-item.item-index c.args.items.now))) (c.loop-item.invariant ports nets so_far))
