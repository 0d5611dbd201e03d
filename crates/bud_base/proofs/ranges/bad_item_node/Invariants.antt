use Rattle.std.proofs.Common.{◌≡◌, [], ◌∷◌, drop, find, nat_le}
use Rattle.std.specs.List.{flat_map}
use Rattle.bud_base.proofs.ranges.bad_item_node.Given as goal

abbrev pub invariant-loop-item : goal.invariant-loop-item
invariant-loop-item l =
    find (λ n. nat_le l.nodes n) (flat_map (λ x. x.from.0 ∷ x.to.0 ∷ []) l.items)
    ≡ find (λ n. nat_le l.nodes n) (flat_map (λ x. x.from.0 ∷ x.to.0 ∷ []) (drop l.item-index l.items))
