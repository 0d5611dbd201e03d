-- The number that a policy line names, and the share that it gives.
use Rattle.std.specs.Prelude.{◌≡◌, ◌<◌, ℕ, List, length, Option, Some, None}
use Rattle.bud_design.specs.Arcs.{Arc}
use Rattle.bud_design.specs.Designs.{Design, named_cells}
use Rattle.bud_design.specs.Names.{meaning}
use Rattle.bud_design.specs.Policies.{arc_called, block_place}
use Rattle.bud_design.specs.declared.policies.PolicyLine.{PolicyLine}
use Rattle.bud_design.specs.declared.policies.PolicyLine.TheVariants as line

-- the place of a block or an instance, or the arc
abbrev pub line_number : Design → List Arc → PolicyLine → Option ℕ
line_number d arcs (line.Block path) = block_place d path
line_number d arcs (line.Default extra weight clock) = None
line_number d arcs (line.Inst path extra weight clock) = meaning (named_cells d 0) path
line_number d arcs (line.Arc from to extra weight clock) = arc_called d arcs from to

abbrev pub IsPlaceBelow : Design → Option ℕ → Type 0
IsPlaceBelow d None = Unit {0}
IsPlaceBelow d (Some p) = p < length d.places

-- of a block, the place that it names
abbrev pub IsBlockNumber : Design → PolicyLine → Option ℕ → Type 0
IsBlockNumber d (line.Block path) number = (number ≡ block_place d path) × IsPlaceBelow d number
IsBlockNumber d (line.Default extra weight clock) number = Unit {0}
IsBlockNumber d (line.Inst path extra weight clock) number = IsPlaceBelow d number
IsBlockNumber d (line.Arc from to extra weight clock) number = Unit {0}
