use Rattle.std.proofs.Common.{◌≡◌, ℕ, Bool, false, List, length, arith, ap, sym, subst, ◌∙◌}
use Rattle.std.specs.Vec.{with_items}
use Rattle.std.proofs.lemmas.List.{with_items_is}
use Rattle.node_potentials.specs.Moves.{flag_at}
use Rattle.node_potentials.proofs.Keeping.{AreKept-none}
use Rattle.node_potentials.proofs.rounds.Potentials.keep.Goals as goal

pub invariant_of-self : goal.invariant_of-self
invariant_of-self c =
    let flags : List Bool = (with_items c.self.inside.is_moved c.keep_moved.new.is_moved).items in
    let is : flags ≡ c.keep_moved.new.is_moved = with_items_is c.self.inside.is_moved c.keep_moved.new.is_moved (c.keep_moved.auto.is_moved ∙ c.deref_mut-2.ensures.len) in
    let size : length flags ≡ length c.self.inside.is_moved.items = ap length is ∙ c.keep_moved.auto.is_moved ∙ ap length c.deref_mut-2.ensures.value in
    let P : List Bool → Type 0 = λ l. (v : ℕ) → flag_at l v ≡ false in
    AreKept-none _ c.self.inside.present.items flags c.self.inside.moved.items
    (with_items_is c.self.inside.kept c.keep_moved.new.kept (c.keep_moved.auto.kept ∙ c.deref_mut.ensures.len) ∙ c.keep_moved.ensures.kept ∙ c.deref.ensures.value)
    (omega (arith, c.self.invariant.present_size, size)) (omega (arith, c.self.invariant.noted.size, size)) (subst P (sym is) c.keep_moved.ensures.none)
