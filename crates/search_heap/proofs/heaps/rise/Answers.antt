use Rattle.std.proofs.Common.{arith, refl}
use Rattle.search_heap.specs.Heaps.{far}
use Rattle.search_heap.proofs.HeapOrder.{IsHeap-ended, IsFarEnough-top, IsFarEnough-above}
use Rattle.search_heap.proofs.Sifting.{IsSifted-none, IsSifted-risen, IsNearEnough-after}
use Rattle.search_heap.proofs.heaps.rise.Goals as goal

pub levels-init : goal.levels-init
levels-init c = (IsSifted-none c.args.offers.now c.args.places.now c.args.count c.args.from c.requires.placed c.requires.heap, c.requires.near_enough, c.requires.from)

pub levels-preserved : goal.levels-preserved
levels-preserved c =
    let so_far = c.levels.invariant in
    let nearer = c.if-is_nearer.ensures.yes refl in (
      IsSifted-risen c.args.offers.now c.levels.offers c.exchange.new.offers c.args.places.now c.levels.places c.exchange.new.places c.args.count c.place_above-above.result c.levels.place c.place_above-above.ensures
          so_far.2 c.exchange.ensures.offers c.exchange.auto.offers c.exchange.ensures.places nearer so_far.1 so_far.0,
      IsNearEnough-after c.args.offers.now c.levels.offers c.exchange.new.offers c.args.places.now c.levels.places c.args.count c.place_above-above.result c.levels.place c.place_above-above.ensures
          c.exchange.ensures.offers nearer so_far.0,
      omega (arith, c.place_above-above.ensures.first, so_far.2),
    )

pub returns-else-is_nearer-clause-heap : goal.returns-else-is_nearer-clause-heap
returns-else-is_nearer-clause-heap c =
    IsHeap-ended c.args.count (far c.levels.offers) c.levels.place c.levels.invariant.0.but c.levels.invariant.1
    (IsFarEnough-above (far c.levels.offers) c.place_above-above.result c.levels.place c.place_above-above.ensures (c.if-is_nearer.ensures.no refl))

pub returns-else-is_nearer-clause-same : goal.returns-else-is_nearer-clause-same
returns-else-is_nearer-clause-same c = c.levels.invariant.0.same

pub returns-clause-heap : goal.returns-clause-heap
returns-clause-heap c =
    IsHeap-ended c.args.count (far c.levels.offers) c.levels.place c.levels.invariant.0.but c.levels.invariant.1 (IsFarEnough-top (far c.levels.offers) c.levels.place (omega (arith, c.levels-test.false)))

pub returns-clause-same : goal.returns-clause-same
returns-clause-same c = c.levels.invariant.0.same
