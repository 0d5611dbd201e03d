use Rattle.std.proofs.Common.{arith, set, Some, refl, ap}
use Rattle.std.proofs.Math.ListN.{length-set}
use Rattle.search_heap.specs.Heaps.{far}
use Rattle.search_heap.proofs.HeapOrder.{IsHeapBut-replaced, IsNearEnough-replaced}
use Rattle.search_heap.proofs.Offering.{place_of, ArePlaced-offered, AreOffered-nearer, far-set, far-replaced, offer-of_farther}
use Rattle.search_heap.proofs.offers.offer_nearer.Goals as goal

pub bounds-places-node : goal.bounds-places-node
bounds-places-node c = omega (arith, c.requires.heaped.place_size, c.requires.node)

pub bounds-offers-place : goal.bounds-offers-place
bounds-offers-place c = omega (arith, (offer-of_farther _ _ _ _ _ _ c.requires.heaped.offered c.requires.farther).below, c.requires.count, c.requires.heaped.offer_size)

pub rise-requires-clause-count : goal.rise-requires-clause-count
rise-requires-clause-count c =
    omega (arith, c.requires.heaped.offer_size, c.requires.count, length-set c.args.offers.now (place_of c.args.places.now c.args.near.node.0) c.args.near)

pub rise-requires-clause-from : goal.rise-requires-clause-from
rise-requires-clause-from c = (offer-of_farther _ _ _ _ _ _ c.requires.heaped.offered c.requires.farther).below

pub rise-requires-clause-placed : goal.rise-requires-clause-placed
rise-requires-clause-placed c =
    ArePlaced-offered _ _ _ _ (omega (arith, c.requires.heaped.place_size, length-set c.args.entries.now c.args.near.node.0 (Some c.waiting_entry.result)))
    (AreOffered-nearer c.args.entries.now c.args.offers.now c.args.places.now c.args.count (place_of c.args.places.now c.args.near.node.0) c.args.near c.args.by c.waiting_entry.result c.requires.node
    (omega (arith, c.requires.heaped.offer_size, c.requires.count)) refl (offer-of_farther _ _ _ _ _ _ c.requires.heaped.offered c.requires.farther) c.waiting_entry.ensures c.requires.heaped.offered)

pub rise-requires-clause-heap : goal.rise-requires-clause-heap
rise-requires-clause-heap c =
    IsHeapBut-replaced c.args.count (far c.args.offers.now) _ (place_of c.args.places.now c.args.near.node.0) c.requires.heaped.heap
    (offer-of_farther _ _ _ _ _ _ c.requires.heaped.offered c.requires.farther).below (far-set c.args.offers.now (place_of c.args.places.now c.args.near.node.0) c.args.near)

pub rise-requires-clause-near_enough : goal.rise-requires-clause-near_enough
rise-requires-clause-near_enough c =
    IsNearEnough-replaced c.args.count (far c.args.offers.now) _ (place_of c.args.places.now c.args.near.node.0) c.requires.heaped.heap
    (far-set c.args.offers.now (place_of c.args.places.now c.args.near.node.0) c.args.near)
    (far-replaced c.args.entries.now c.args.offers.now c.args.places.now c.args.count c.args.near (omega (arith, c.requires.heaped.offer_size, c.requires.count)) c.requires.heaped.offered c.requires.farther)

pub returns-clause-heaped : goal.returns-clause-heaped
returns-clause-heaped c = record {
  offered = c.rise.ensures.same _
      (AreOffered-nearer c.args.entries.now c.args.offers.now c.args.places.now c.args.count (place_of c.args.places.now c.args.near.node.0) c.args.near c.args.by c.waiting_entry.result c.requires.node
      (omega (arith, c.requires.heaped.offer_size, c.requires.count)) refl (offer-of_farther _ _ _ _ _ _ c.requires.heaped.offered c.requires.farther) c.waiting_entry.ensures c.requires.heaped.offered);
  heap = c.rise.ensures.heap;
  offer_size = omega (
    arith,
    c.rise.auto.offers,
    c.requires.heaped.offer_size,
    length-set c.args.entries.now c.args.near.node.0 (Some c.waiting_entry.result),
    length-set c.args.offers.now (place_of c.args.places.now c.args.near.node.0) c.args.near,
  );
  place_size = omega (arith, c.rise.auto.places, c.requires.heaped.place_size, length-set c.args.entries.now c.args.near.node.0 (Some c.waiting_entry.result));
}

pub returns-clause-entries : goal.returns-clause-entries
returns-clause-entries c = ap (λ e. set c.args.entries.now c.args.near.node.0 (Some e)) c.waiting_entry.ensures
