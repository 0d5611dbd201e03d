use Rattle.std.proofs.Common.{arith, set, Some, ap}
use Rattle.std.proofs.Math.ListN.{length-set}
use Rattle.search_heap.specs.Heaps.{far}
use Rattle.search_heap.proofs.HeapOrder.{IsHeapBut-appended, IsNearEnough-appended}
use Rattle.search_heap.proofs.Offering.{ArePlaced-offered, AreOffered-first, far-set}
use Rattle.search_heap.proofs.offers.offer_first.Goals as goal

pub bounds-offers-count : goal.bounds-offers-count
bounds-offers-count c = omega (arith, c.requires.heaped.offer_size, c.requires.room)

pub bounds-places-node : goal.bounds-places-node
bounds-places-node c = omega (arith, c.requires.heaped.place_size, c.requires.node)

pub rise-requires-clause-count : goal.rise-requires-clause-count
rise-requires-clause-count c = omega (arith, c.requires.heaped.offer_size, c.requires.room, length-set c.args.offers.now c.args.count c.args.near)

pub rise-requires-clause-placed : goal.rise-requires-clause-placed
rise-requires-clause-placed c =
    ArePlaced-offered _ _ _ _
    (omega (arith, c.requires.heaped.place_size, length-set c.args.entries.now c.args.near.node.0 (Some c.waiting_entry.result), length-set c.args.places.now c.args.near.node.0 c.args.count))
    (AreOffered-first c.args.entries.now c.args.offers.now c.args.places.now c.args.count c.args.near c.args.by c.waiting_entry.result c.requires.node c.requires.heaped.place_size
    (omega (arith, c.requires.heaped.offer_size, c.requires.room)) c.requires.free c.waiting_entry.ensures c.requires.heaped.offered)

pub rise-requires-clause-heap : goal.rise-requires-clause-heap
rise-requires-clause-heap c = IsHeapBut-appended c.args.count (far c.args.offers.now) _ c.requires.heaped.heap (far-set c.args.offers.now c.args.count c.args.near)

pub rise-requires-clause-near_enough : goal.rise-requires-clause-near_enough
rise-requires-clause-near_enough c = IsNearEnough-appended c.args.count _

pub returns-clause-heaped : goal.returns-clause-heaped
returns-clause-heaped c = record {
  offered = c.rise.ensures.same _ (AreOffered-first c.args.entries.now c.args.offers.now c.args.places.now c.args.count c.args.near c.args.by c.waiting_entry.result c.requires.node c.requires.heaped.place_size
      (omega (arith, c.requires.heaped.offer_size, c.requires.room)) c.requires.free c.waiting_entry.ensures c.requires.heaped.offered);
  heap = c.rise.ensures.heap;
  offer_size = omega (arith, c.rise.auto.offers, c.requires.heaped.offer_size, length-set c.args.entries.now c.args.near.node.0 (Some c.waiting_entry.result), length-set c.args.offers.now c.args.count c.args.near);
  place_size = omega (arith, c.rise.auto.places, c.requires.heaped.place_size, length-set c.args.entries.now c.args.near.node.0 (Some c.waiting_entry.result), length-set c.args.places.now c.args.near.node.0 c.args.count);
}

pub returns-clause-entries : goal.returns-clause-entries
returns-clause-entries c = ap (λ e. set c.args.entries.now c.args.near.node.0 (Some e)) c.waiting_entry.ensures
