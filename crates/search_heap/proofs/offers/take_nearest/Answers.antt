use Rattle.std.proofs.Common.{◌≡◌, ◌+◌, ◌-◌, ◌<◌, ℕ, arith, refl}
use Rattle.std.proofs.Math.ListN.{length-set}
use Rattle.search_heap.specs.Heaps.{far}
use Rattle.search_heap.proofs.HeapOrder.{IsHeapBut-removed, IsFarEnough-top}
use Rattle.search_heap.proofs.Offering.{node_of, ArePlaced-offered, ArePlaced-top, AreOffered-top, AreExchanged-swapped, IsTakenAt-top, entry-within}
use Rattle.search_heap.proofs.offers.take_nearest.Goals as goal

one_less : (count : ℕ) → 0 < count → count ≡ (count - 1) + 1
one_less count some = omega arith

pub bounds-entries-node : goal.bounds-entries-node
bounds-entries-node c =
    let one = c.requires.heaped.offered.each 0 c.requires.some in
    entry-within c.args.entries.now (node_of c.args.offers.now 0) one.entry one.is

pub exchange-requires-clause-one : goal.exchange-requires-clause-one
exchange-requires-clause-one c = omega (arith, c.requires.heaped.offer_size, c.requires.count, c.requires.some)

pub exchange-requires-clause-other : goal.exchange-requires-clause-other
exchange-requires-clause-other c = omega (arith, c.requires.heaped.offer_size, c.requires.count, c.requires.some)

pub exchange-requires-clause-first : goal.exchange-requires-clause-first
exchange-requires-clause-first c = (ArePlaced-offered _ _ _ _ c.requires.heaped.place_size c.requires.heaped.offered 0 c.requires.some).0

pub exchange-requires-clause-second : goal.exchange-requires-clause-second
exchange-requires-clause-second c = (ArePlaced-offered _ _ _ _ c.requires.heaped.place_size c.requires.heaped.offered (c.args.count - 1) (omega (arith, c.requires.some))).0

pub sink-requires-clause-count : goal.sink-requires-clause-count
sink-requires-clause-count c = omega (arith, c.exchange.auto.offers, c.requires.heaped.offer_size, c.requires.count)

pub sink-requires-clause-placed : goal.sink-requires-clause-placed
sink-requires-clause-placed c =
    ArePlaced-top c.args.entries.now c.args.offers.now c.exchange.new.offers c.args.places.now c.exchange.new.places c.args.count (c.args.count - 1) c.requires.heaped (one_less c.args.count c.requires.some) c.exchange.ensures.offers
    c.exchange.ensures.places

pub sink-requires-clause-heap : goal.sink-requires-clause-heap
sink-requires-clause-heap c =
    IsHeapBut-removed c.args.count (c.args.count - 1) (far c.args.offers.now) (far c.exchange.new.offers) c.requires.heaped.heap (one_less c.args.count c.requires.some)
    (AreExchanged-swapped c.args.offers.now c.exchange.new.offers 0 (c.args.count - 1) c.exchange.ensures.offers).rest

pub sink-requires-clause-far_enough : goal.sink-requires-clause-far_enough
sink-requires-clause-far_enough c = IsFarEnough-top (far c.exchange.new.offers) 0 refl

pub returns-clause-taken : goal.returns-clause-taken
returns-clause-taken c =
    IsTakenAt-top c.args.entries.now _ c.args.offers.now c.args.places.now c.args.count c.args.place c.taken_entry.result c.requires.heaped c.requires.some c.taken_entry.ensures.some refl

pub returns-clause-heaped : goal.returns-clause-heaped
returns-clause-heaped c = record {
  offered = c.sink.ensures.same _
      (AreOffered-top c.args.entries.now c.args.offers.now c.exchange.new.offers c.args.places.now c.exchange.new.places c.args.count (c.args.count - 1) c.args.place c.taken_entry.result c.requires.heaped
      (one_less c.args.count c.requires.some) c.taken_entry.ensures.some c.exchange.ensures.offers c.exchange.ensures.places);
  heap = c.sink.ensures.heap;
  offer_size = omega (arith, c.sink.auto.offers, c.exchange.auto.offers, c.requires.heaped.offer_size, length-set c.args.entries.now (node_of c.args.offers.now 0) c.taken_entry.result);
  place_size = omega (arith, c.sink.auto.places, c.exchange.auto.places, c.requires.heaped.place_size, length-set c.args.entries.now (node_of c.args.offers.now 0) c.taken_entry.result);
}
