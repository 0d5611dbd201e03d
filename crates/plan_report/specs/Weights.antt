-- What the budgets of some of the items weigh: of those whose arcs lie inside a block, and of those inside none.
use Rattle.std.specs.Prelude.{ℕ, ℤ, pos, ◌*ℤ◌, Bool, false, not, List, length, map, slice_index_or, if◌then◌else◌}
use Rattle.std.specs.List.{list_any}
use Rattle.bud_base.specs.Paths.{item_at}
use Rattle.bud_base.specs.declared.problems.Problem.{Problem}
use Rattle.bud_flow.specs.Sums.{sum_below, number_at}
use Rattle.bud_design.specs.declared.layers.LayerItem.{LayerItem}
use Rattle.bud_design.specs.Arcs.{Arc, arc_at}
use Rattle.bud_design.specs.Designs.{Design, is_inside}

-- whether an item of this number is marked
abbrev pub mark_at : List Bool → ℕ → Bool
mark_at marks i = slice_index_or marks i false

-- weight times budget of a marked item
abbrev pub marked_term : List Bool → Problem → List ℤ → ℕ → ℤ
marked_term marks p budgets i = if mark_at marks i then pos (item_at p.items i).weight *ℤ number_at budgets i else pos 0

-- weight times budget over the marked items
abbrev pub marked_weight : List Bool → Problem → List ℤ → ℤ
marked_weight marks p budgets = sum_below (length p.items) (marked_term marks p budgets)

-- which items' arcs lie inside the place
abbrev pub inside : Design → List Arc → List LayerItem → ℕ → List Bool
inside d arcs items place = map (λ x. is_inside d.places place (arc_at arcs x.arc.0).home) items

-- which items' arcs lie inside none of the places
abbrev pub outside : Design → List Arc → List LayerItem → List ℕ → List Bool
outside d arcs items places = map (λ x. not (list_any (λ p. is_inside d.places p (arc_at arcs x.arc.0).home) places)) items
