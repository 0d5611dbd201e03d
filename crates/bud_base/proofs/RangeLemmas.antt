-- Numbers that are out of their ranges, found one after another.
use Rattle.std.proofs.Common.{◌≡◌, ℕ, Option, List, [], ◌∷◌, ◌++◌, map, find, nat_le, sym, ◌∙◌, ap}
use Rattle.std.specs.List.{flat_map}
use Rattle.std.specs.Option.{option_or}
use Rattle.std.proofs.lemmas.List.Folds.{find-append}
use Rattle.bud_base.specs.Soundness.{first_bad_node}
use Rattle.bud_base.specs.declared.problems.Item.{Item}
use Rattle.bud_base.specs.declared.problems.Start.{Start}
use Rattle.bud_base.specs.declared.problems.End.{End}
use Rattle.bud_base.specs.declared.problems.Problem.{Problem}

-- the first node number out of range is that of an item, else of a start, else of an end
pub first_bad_node-parts : (p : Problem) (items : List Item) (starts : List Start) (ends : List End) (i s e : Option ℕ) → items ≡ p.items → starts ≡ p.starts → ends ≡ p.ends
    → i ≡ find (λ n. nat_le p.nodes n) (flat_map (λ x. x.from.0 ∷ x.to.0 ∷ []) items) → s ≡ find (λ n. nat_le p.nodes n) (map (λ x. x.node.0) starts)
    → e ≡ find (λ n. nat_le p.nodes n) (map (λ x. x.node.0) ends) → option_or i (option_or s e) ≡ first_bad_node p
first_bad_node-parts p items starts ends i s e same_items same_starts same_ends is_i is_s is_e =
    rw (is_i, is_s, is_e, same_items, same_starts, same_ends)
    (sym
    (find-append (λ n. nat_le p.nodes n) (flat_map (λ x. x.from.0 ∷ x.to.0 ∷ []) p.items) (map (λ x. x.node.0) p.starts ++ map (λ x. x.node.0) p.ends)
    ∙ ap (option_or (find (λ n. nat_le p.nodes n) (flat_map (λ x. x.from.0 ∷ x.to.0 ∷ []) p.items)))
    (find-append (λ n. nat_le p.nodes n) (map (λ x. x.node.0) p.starts) (map (λ x. x.node.0) p.ends))))
