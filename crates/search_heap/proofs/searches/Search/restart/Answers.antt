use Rattle.std.proofs.Common.{length, ap, refl, ◌∙◌}
use Rattle.std.specs.Vec.{with_items}
use Rattle.std.proofs.lemmas.List.{with_items_is}
use Rattle.search_heap.specs.Searches.{Searched}
use Rattle.search_heap.proofs.Keeping.{AreBlank-restarted, AreKept-none}
use Rattle.search_heap.proofs.searches.Search.restart.Goals as goal

pub invariant_of-self : goal.invariant_of-self
invariant_of-self c =
    let kept = c.self.invariant in
    let mid = with_items c.self.inside.entries c.clear_waiting.new.entries in
    AreKept-none _ c.self.inside.offers.items c.self.inside.places.items c.self.inside.order.items (length c.self.inside.entries.items)
    (AreBlank-restarted c.self.inside.entries.items c.deref_mut.result.now c.clear_waiting.new.entries c.deref_mut-2.result.now c.clear_taken.new.entries _ c.self.inside.offers.items c.deref.result.now
    c.self.inside.places.items c.self.inside.order.items c.deref-2.result.now c.self.inside.waiting c.self.inside.taken c.deref_mut.ensures.value
    (c.deref_mut-2.ensures.value ∙ with_items_is c.self.inside.entries c.clear_waiting.new.entries (c.clear_waiting.auto.entries ∙ c.deref_mut.ensures.len))
    (with_items_is mid c.clear_taken.new.entries (c.clear_taken.auto.entries ∙ c.deref_mut-2.ensures.len))
    c.deref.ensures.value c.deref-2.ensures.value c.clear_waiting.auto.entries c.clear_taken.auto.entries c.clear_waiting.ensures c.clear_taken.ensures kept)
    kept.heaped.offer_size kept.heaped.place_size kept.order_size

pub returns : goal.returns
returns c =
    let kept = c.self.invariant in
    let mid = with_items c.self.inside.entries c.clear_waiting.new.entries in
    let blank = AreBlank-restarted c.self.inside.entries.items c.deref_mut.result.now c.clear_waiting.new.entries c.deref_mut-2.result.now c.clear_taken.new.entries (with_items mid c.clear_taken.new.entries).items
    c.self.inside.offers.items c.deref.result.now
    c.self.inside.places.items c.self.inside.order.items c.deref-2.result.now c.self.inside.waiting c.self.inside.taken c.deref_mut.ensures.value
    (c.deref_mut-2.ensures.value ∙ with_items_is c.self.inside.entries c.clear_waiting.new.entries (c.clear_waiting.auto.entries ∙ c.deref_mut.ensures.len))
    (with_items_is mid c.clear_taken.new.entries (c.clear_taken.auto.entries ∙ c.deref_mut-2.ensures.len))
    c.deref.ensures.value c.deref-2.ensures.value c.clear_waiting.auto.entries c.clear_taken.auto.entries c.clear_waiting.ensures c.clear_taken.ensures kept in
    record { size = blank.size ∙ ap (λ (s : Searched). length s.entries) c.self.view_is; none = blank.none; taken = refl }
