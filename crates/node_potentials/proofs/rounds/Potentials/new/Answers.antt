use Rattle.std.proofs.Common.{◌≡◌, ℕ, Bool, false, List, arith, sym, subst, ◌∙◌}
use Rattle.node_potentials.specs.Moves.{flag_at}
use Rattle.node_potentials.proofs.Noting.{flag_at-replicate}
use Rattle.node_potentials.proofs.Keeping.{AreKept-none}
use Rattle.node_potentials.proofs.rounds.Potentials.new.Goals as goal

pub invariant_of-result : goal.invariant_of-result
invariant_of-result c =
    let is = c.in_ok-is_moved.ensures.items_if_clones_equal (λ y same. same) in
    let P : List Bool → Type 0 = λ l. (v : ℕ) → flag_at l v ≡ false in
    AreKept-none c.in_ok-kept.kept.items c.args.potentials.items c.in_ok-is_moved.is_moved.items c.in_ok-moved.moved.items (c.in_ok-kept.ensures ∙ c.deref.ensures.value)
    (omega (arith, c.args.potentials.ok.0, c.len-nodes.ensures, c.in_ok-is_moved.is_moved.ok.0, c.in_ok-is_moved.ensures.len))
    (omega (arith, c.in_ok-moved.moved.ok.0, c.in_ok-moved.ensures.len, c.in_ok-is_moved.is_moved.ok.0, c.in_ok-is_moved.ensures.len)) (subst P (sym is) (flag_at-replicate c.len-nodes.result))
