use Rattle.std.proofs.Common.{arith, refl, ◌∙◌}
use Rattle.std.proofs.lemmas.List.{with_items_is}
use Rattle.search_heap.proofs.Keeping.{AreKept-nearest}
use Rattle.search_heap.proofs.searches.Search.nearest.Goals as goal

pub invariant_of-self : goal.invariant_of-self
invariant_of-self c =
    let told = c.take_nearest-near in
    AreKept-nearest c.self.inside.entries.items c.deref_mut.result.now told.new.entries _ c.self.inside.offers.items told.new.offers _ c.self.inside.places.items told.new.places _ c.self.inside.order.items _
    c.self.inside.waiting c.self.inside.taken told.result c.deref_mut.ensures.value
    (with_items_is c.self.inside.entries told.new.entries (told.auto.entries ∙ c.deref_mut.ensures.len))
    (with_items_is c.self.inside.offers told.new.offers (told.auto.offers ∙ c.deref_mut-2.ensures.len))
    (with_items_is c.self.inside.places told.new.places (told.auto.places ∙ c.deref_mut-3.ensures.len))
    refl (omega (arith, c.if-self-eq0.false)) told.ensures.taken told.ensures.heaped c.self.invariant
