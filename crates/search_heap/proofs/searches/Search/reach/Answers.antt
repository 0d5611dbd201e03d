use Rattle.std.proofs.Common.{◌<◌, length, sym, subst, ◌∙◌}
use Rattle.std.proofs.lemmas.List.{with_items_is}
use Rattle.search_heap.specs.Searches.{Searched}
use Rattle.search_heap.proofs.Keeping.{AreKept-reached}
use Rattle.search_heap.proofs.searches.Search.reach.Goals as goal

pub invariant_of-self : goal.invariant_of-self
invariant_of-self c =
    let told = c.reach_in-self-inside in
    let P : Searched → Type 0 = λ s. c.args.node.0 < length s.entries in
    AreKept-reached c.self.inside.entries.items c.deref_mut.result.now told.new.entries _ c.self.inside.offers.items told.new.offers _ c.self.inside.places.items told.new.places _ c.self.inside.order.items
    c.self.inside.waiting c.self.inside.taken told.result c.args.node.0 _ _ c.deref_mut.ensures.value
    (with_items_is c.self.inside.entries told.new.entries (told.auto.entries ∙ c.deref_mut.ensures.len))
    (with_items_is c.self.inside.offers told.new.offers (told.auto.offers ∙ c.deref_mut-2.ensures.len))
    (with_items_is c.self.inside.places told.new.places (told.auto.places ∙ c.deref_mut-3.ensures.len))
    (subst P (sym c.self.view_is) c.requires) told.ensures.entries told.ensures.heaped told.ensures.few c.self.invariant
