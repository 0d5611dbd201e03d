-- The refusals of policy lines.
use Rattle.std.specs.Prelude.{ℕ, List, [], ◌∷◌, ◌++◌, find, is_some, Option, Some, None, if◌then◌else◌}
use Rattle.std.specs.Option.{option_or, option_map}
use Rattle.bud_design.specs.declared.clocks.Clock.{Clock}
use Rattle.bud_design.specs.declared.policies.PolicyLine.{PolicyLine}
use Rattle.bud_design.specs.declared.policies.PolicyLine.TheVariants as line
use Rattle.layer_theory.specs.declared.refusals.LayerFault.{LayerFault}
use Rattle.layer_theory.specs.declared.refusals.LayerFault.TheVariants.{UnknownArc, UnknownInstance, NestedBlocks, UnknownClock}
use Rattle.bud_design.specs.Arcs.{Arc}
use Rattle.bud_design.specs.Clocks.{clock_called}
use Rattle.bud_design.specs.Designs.{Design, named_cells}
use Rattle.bud_design.specs.Names.{meaning}
use Rattle.bud_design.specs.Policies.{are_nested, arc_called, blocks_of, block_place}

abbrev pub nested_fault : Design → List PolicyLine → List ℕ → Option ℕ → Option LayerFault
nested_fault d before path None = Some (UnknownInstance path)
nested_fault d before path (Some p) = option_map (λ b. NestedBlocks b.path path) (find (λ b. are_nested d b.place p) (blocks_of d before))

abbrev pub clock_fault : List Clock → Option (List ℕ) → Option LayerFault
clock_fault clocks None = None
clock_fault clocks (Some name) = if is_some (clock_called clocks name) then None else Some (UnknownClock name)

abbrev pub unless_some : Option ℕ → LayerFault → Option LayerFault
unless_some None fault = Some fault
unless_some (Some n) fault = None

-- the first refusal of a line, by the lines before it
abbrev pub line_fault : Design → List Arc → List Clock → List PolicyLine → PolicyLine → Option LayerFault
line_fault d arcs clocks before (line.Block path) = nested_fault d before path (block_place d path)
line_fault d arcs clocks before (line.Default extra weight clock) = clock_fault clocks clock
line_fault d arcs clocks before (line.Inst path extra weight clock) =
    option_or (unless_some (meaning (named_cells d 0) path) (UnknownInstance path)) (clock_fault clocks clock)
line_fault d arcs clocks before (line.Arc from to extra weight clock) =
    option_or (unless_some (arc_called d arcs from to) (UnknownArc from to)) (clock_fault clocks clock)

abbrev pub lines_fault : Design → List Arc → List Clock → List PolicyLine → List PolicyLine → Option LayerFault
lines_fault d arcs clocks before [] = None
lines_fault d arcs clocks before (x ∷ xs) = option_or (line_fault d arcs clocks before x) (lines_fault d arcs clocks (before ++ x ∷ []) xs)

-- the first refusal of the first line that has one
abbrev pub policy_fault : Design → List Arc → List Clock → List PolicyLine → Option LayerFault
policy_fault d arcs clocks lines = lines_fault d arcs clocks [] lines
