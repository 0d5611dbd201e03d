use Rattle.std.proofs.Common.{rules, ◌<◌, length, All, sym, subst}
use Rattle.bud_base.specs.declared.ids.ItemId.{ItemId}
use Rattle.timing_graph.proofs.RingParts.{IsCycle-ids}
use Rattle.timing_graph.proofs.ordering.cycle_of.Goals as goal

pub pairs_of-requires : goal.pairs_of-requires
pairs_of-requires c = subst (All (λ (a : ItemId). a.0 < length c.args.items.now)) (sym c.deref.ensures.value) (IsCycle-ids c.args.items.now c.in-Ok.own.items c.in-Ok.ensures.cycle)
