-- What is printed of a plan of a design: the least slack, how large the layering is, what the budgets weigh block by block,
-- and what of the design has no budget.
use Rattle.std.specs.Prelude.{ℕ, ℤ, List, [], ◌∷◌, ◌++◌, codes, decimal, length, map, Option, Some, None}
use Rattle.std.specs.Fmt.{signed_decimal}
use Rattle.bud_base.specs.declared.ids.PinId.{PinId}
use Rattle.bud_plans.specs.declared.plans.Plan.{Plan}
use Rattle.bud_design.specs.declared.clocks.Constraints.{Constraints}
use Rattle.bud_design.specs.declared.layers.Layered.{Layered}
use Rattle.bud_design.specs.declared.policies.PolicyLine.{PolicyLine}
use Rattle.bud_design.specs.declared.timings.Timing.{Timing}
use Rattle.bud_design.specs.Arcs.{Arc}
use Rattle.bud_design.specs.Designs.{Design, place_name, pin_name}
use Rattle.bud_design.specs.Policies.{blocks_of}
use Rattle.budget_report.specs.Lines.{line}
use Rattle.budget_report.specs.Violations.{meets_text, no_paths_text}
use Rattle.plan_report.specs.Weights.{marked_weight, inside, outside}

-- the least slack, where there is a constrained path
abbrev pub first_line : Option ℤ → List ℕ
first_line None = no_paths_text
first_line (Some slack) = meets_text slack

abbrev pub count_line : List ℕ → ℕ → List ℕ
count_line word n = line (word ∷ decimal n ∷ [])

abbrev pub weight_line : List ℕ → ℤ → List ℕ
weight_line word weight = line (word ∷ signed_decimal weight ∷ [])

-- the first lines: the slack, the numbers of classes, nodes and items, and the weight of the budgets
unfoldable pub head_text : Option ℤ → Layered → ℤ → List ℕ
head_text slack layered weight =
    first_line slack
    ++ count_line (codes "classes") (length layered.classes)
    ++ count_line (codes "nodes") (length layered.nodes)
    ++ count_line (codes "items") (length layered.items)
    ++ weight_line (codes "weight") weight

-- a place by its printed name, with a weight
abbrev pub place_line : Design → ℕ → ℤ → List ℕ
place_line d place weight = line (codes "block" ∷ place_name d.places 0 place ∷ signed_decimal weight ∷ [])

-- a block with the weight of the items inside it
abbrev pub block_line : Layered → Design → List Arc → List ℤ → ℕ → List ℕ
block_line layered d arcs budgets place = place_line d place (marked_weight (inside d arcs layered.items place) layered.problem budgets)

abbrev pub block_lines : Layered → Design → List Arc → List ℤ → List ℕ → List ℕ
block_lines layered d arcs budgets [] = []
block_lines layered d arcs budgets (p ∷ ps) = block_line layered d arcs budgets p ++ block_lines layered d arcs budgets ps

-- the weight of the items inside no block
abbrev pub rest_line : Layered → Design → List Arc → List ℤ → List ℕ → List ℕ
rest_line layered d arcs budgets places = weight_line (codes "rest") (marked_weight (outside d arcs layered.items places) layered.problem budgets)

-- the places of the blocks, in the order of the policy
abbrev pub block_places : Design → List PolicyLine → List ℕ
block_places d lines = map (λ b. b.place) (blocks_of d lines)

abbrev pub pin_line : Design → PinId → List ℕ
pin_line d v = line (codes "pin" ∷ pin_name d 0 v.0 ∷ [])

abbrev pub pin_lines : Design → List PinId → List ℕ
pin_lines d [] = []
pin_lines d (v ∷ vs) = pin_line d v ++ pin_lines d vs

-- the clock pins that no clock reaches: how many, and a line for each
abbrev pub unclocked_lines : Design → List PinId → List ℕ
unclocked_lines d pins = count_line (codes "unclocked") (length pins) ++ pin_lines d pins

-- the whole summary of a plan
unfoldable pub summary_text : Layered → Design → List Arc → Constraints → Timing → List PolicyLine → Option ℤ → Plan → List ℕ
summary_text layered d arcs all timing lines slack plan =
    head_text slack layered plan.weight
    ++ block_lines layered d arcs plan.budgets (block_places d lines)
    ++ rest_line layered d arcs plan.budgets (block_places d lines)
    ++ unclocked_lines d all.unclocked
    ++ count_line (codes "left-out") timing.left_out
