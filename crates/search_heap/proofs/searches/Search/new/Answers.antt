use Rattle.std.proofs.Common.{arith}
use Rattle.search_heap.proofs.Keeping.{AreKept-none}
use Rattle.search_heap.proofs.searches.Search.new.Goals as goal

pub invariant_of-result : goal.invariant_of-result
invariant_of-result c =
    AreKept-none c.in_ok-entries.entries.items c.in_ok-offers.offers.items c.in_ok-places.places.items c.in_ok-order.order.items c.args.nodes c.in_ok-entries.ensures
    (omega (arith, c.in_ok-offers.offers.ok.0, c.in_ok-offers.ensures.len)) (omega (arith, c.in_ok-places.places.ok.0, c.in_ok-places.ensures.len)) (omega (arith, c.in_ok-order.order.ok.0, c.in_ok-order.ensures.len))
