use Rattle.std.proofs.Common.{refl, ◌∙◌}
use Rattle.std.proofs.lemmas.List.{with_items_is}
use Rattle.node_potentials.proofs.Keeping.{AreKept-put}
use Rattle.node_potentials.proofs.rounds.Potentials.put.Goals as goal

pub invariant_of-self : goal.invariant_of-self
invariant_of-self c =
    let told = c.note-self-inside in
    AreKept-put c.self.inside.kept.items c.self.inside.present.items _ c.self.inside.is_moved.items c.deref_mut.result.now told.new.is_moved _ c.self.inside.moved.items told.new.moved _ c.self.inside.count told.result c.args.node.0 _
    c.deref_mut.ensures.value (with_items_is c.self.inside.is_moved told.new.is_moved (told.auto.is_moved ∙ c.deref_mut.ensures.len))
    (with_items_is c.self.inside.moved told.new.moved (told.auto.moved ∙ c.deref_mut-2.ensures.len)) told.auto.is_moved refl told.ensures.noted told.ensures.here told.ensures.others c.self.invariant
