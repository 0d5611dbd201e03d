use Rattle.std.proofs.Common.{arith, refl}
use Rattle.search_heap.specs.Heaps.{far}
use Rattle.search_heap.proofs.HeapOrder.{IsHeap-ended, IsNearEnough-none, IsNearEnough-nearest}
use Rattle.search_heap.proofs.Sifting.{IsSifted-none, IsSifted-sunk, IsFarEnough-after}
use Rattle.search_heap.proofs.heaps.sink.Goals as goal

pub levels-init : goal.levels-init
levels-init c = (IsSifted-none c.args.offers.now c.args.places.now c.args.count c.args.from c.requires.placed c.requires.heap, c.requires.far_enough, c.requires.from)

pub levels-preserved : goal.levels-preserved
levels-preserved c =
    let so_far = c.levels.invariant in
    let nearer = c.if-is_nearer.ensures.yes refl in (
      IsSifted-sunk c.args.offers.now c.levels.offers c.exchange.new.offers c.args.places.now c.levels.places c.exchange.new.places c.args.count c.levels.place c.in-Some.below c.in-Some.ensures
          c.exchange.ensures.offers c.exchange.auto.offers c.exchange.ensures.places nearer so_far.0,
      IsFarEnough-after c.levels.offers c.exchange.new.offers c.args.count c.levels.place c.in-Some.below c.in-Some.ensures c.exchange.ensures.offers nearer,
      omega (arith, c.in-Some.ensures.1),
    )

pub returns-else-is_nearer-clause-heap : goal.returns-else-is_nearer-clause-heap
returns-else-is_nearer-clause-heap c =
    IsHeap-ended c.args.count (far c.levels.offers) c.levels.place c.levels.invariant.0.but
    (IsNearEnough-nearest c.args.count (far c.levels.offers) c.levels.place c.in-Some.below c.in-Some.ensures.2 (c.if-is_nearer.ensures.no refl)) c.levels.invariant.1

pub returns-else-is_nearer-clause-same : goal.returns-else-is_nearer-clause-same
returns-else-is_nearer-clause-same c = c.levels.invariant.0.same

pub returns-clause-heap : goal.returns-clause-heap
returns-clause-heap c =
    IsHeap-ended c.args.count (far c.levels.offers) c.levels.place c.levels.invariant.0.but (IsNearEnough-none c.args.count (far c.levels.offers) c.levels.place c.in_default.ensures) c.levels.invariant.1

pub returns-clause-same : goal.returns-clause-same
returns-clause-same c = c.levels.invariant.0.same
