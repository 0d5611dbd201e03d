-- What is printed of a violated path of a design: the classes of the path, its start, its arcs and its end.
use Rattle.std.specs.Prelude.{ℕ, suc, ◌<◌, ◌==◌, nat_lt, ℤ, Bool, List, [], ◌∷◌, ◌++◌, codes, decimal, map, length, slice_index_or, if◌then◌else◌}
use Rattle.std.specs.Fmt.{signed_decimal}
use Rattle.std.specs.List.{list_any}
use Rattle.bud_base.specs.Paths.{Path, item_at, start_at, end_at}
use Rattle.bud_base.specs.declared.ids.ItemId.{ItemId}
use Rattle.bud_base.specs.declared.problems.Item.{Item}
use Rattle.bud_base.specs.declared.problems.Start.{Start}
use Rattle.bud_base.specs.declared.problems.End.{End}
use Rattle.bud_syntax.specs.declared.edges.Edge.{Edge}
use Rattle.bud_syntax.specs.declared.edges.Edge.TheVariants.{Rise, Fall}
use Rattle.bud_design.specs.declared.clocks.Constraints.{Constraints}
use Rattle.bud_design.specs.declared.clocks.Exception.{Exception}
use Rattle.bud_design.specs.declared.layers.Class.{Class}
use Rattle.bud_design.specs.declared.layers.LayerNode.{LayerNode}
use Rattle.bud_design.specs.declared.layers.Layered.{Layered}
use Rattle.bud_design.specs.declared.layers.Met.{Met}
use Rattle.bud_design.specs.Clocks.{clock_at}
use Rattle.bud_design.specs.Designs.{Design, pin_name}
use Rattle.bud_design.specs.Exceptions.{groups_of}
use Rattle.bud_design.specs.TimingRules.{IsSoundLayered}
use Rattle.budget_report.specs.Lines.{line}
use Rattle.budget_report.specs.Violations.{violated_text}
use Rattle.budget_report.specs.Subjects.{Subject, bare, raw, pins, design}

-- ---- lines of paths
abbrev pub slack_line : ℤ → List ℕ
slack_line slack = line (codes "violated" ∷ signed_decimal slack ∷ [])

abbrev pub edge_word : Edge → List ℕ
edge_word Rise = codes "rise"
edge_word Fall = codes "fall"

-- an exception of a class by its number, and where it has groups with how many of them are met
abbrev pub has_groups : List Exception → ℕ → Bool
has_groups exceptions number = nat_lt 0 (length (groups_of exceptions number))

abbrev pub met_field : List Exception → Met → List ℕ
met_field exceptions m = if has_groups exceptions m.number then decimal m.number ++ (58 ∷ decimal m.steps) else decimal m.number

-- a class by its number, its clock, its edge and the exceptions whose from-part it meets
abbrev pub class_line : Constraints → ℕ → Class → List ℕ
class_line all number k =
    line (codes "class" ∷ decimal number ∷ (clock_at all.clocks k.clock).name ∷ edge_word k.edge ∷ map (met_field all.exceptions) k.exceptions)

-- the lines of the classes that have one of these numbers, by number
abbrev pub is_among : List ℕ → ℕ → Bool
is_among numbers n = list_any (λ m. m == n) numbers

abbrev pub among_line : Constraints → List ℕ → ℕ → Class → List ℕ
among_line all numbers n k = if is_among numbers n then class_line all n k else []

abbrev pub class_lines : Constraints → List ℕ → ℕ → List Class → List ℕ
class_lines all numbers n [] = []
class_lines all numbers n (k ∷ ks) = among_line all numbers n k ++ class_lines all numbers (suc n) ks

-- a pin in a class, with the launch's offset or the required time
abbrev pub named_pin_line : List ℕ → List ℕ → ℕ → ℤ → List ℕ
named_pin_line word name number time = line (word ∷ name ∷ decimal number ∷ signed_decimal time ∷ [])

abbrev pub pin_line : List ℕ → Design → ℕ → ℕ → ℤ → List ℕ
pin_line word d v number time = named_pin_line word (pin_name d 0 v) number time

-- an arc between pins of these names, with its least delay
abbrev pub named_arc_line : List ℕ → List ℕ → ℤ → List ℕ
named_arc_line from to least = line (codes "arc" ∷ from ∷ to ∷ signed_decimal least ∷ [])

abbrev pub arc_line : Design → ℕ → ℕ → ℤ → List ℕ
arc_line d from to least = named_arc_line (pin_name d 0 from) (pin_name d 0 to) least

-- ---- a path of a layered problem
abbrev pub node_at : List LayerNode → ℕ → LayerNode
node_at nodes n = slice_index_or nodes n (record { pin = record { 0 = 0 }; «class» = record { 0 = 0 } })

abbrev pub pin_of : Layered → ℕ → ℕ
pin_of layered n = (node_at layered.nodes n).pin.0

abbrev pub class_of_node : Layered → ℕ → ℕ
class_of_node layered n = (node_at layered.nodes n).«class».0

-- the numbers of the classes, pin by pin
abbrev pub item_classes : Layered → List ItemId → List ℕ
item_classes layered is = map (λ i. class_of_node layered (item_at layered.problem.items i.0).to.0) is

abbrev pub path_classes : Layered → Path → List ℕ
path_classes layered path = class_of_node layered (start_at layered.problem.starts path.start).node.0 ∷ item_classes layered path.items

abbrev pub item_line : Design → Layered → Item → List ℕ
item_line d layered x = arc_line d (pin_of layered x.from.0) (pin_of layered x.to.0) x.least

abbrev pub item_lines : Design → Layered → List ItemId → List ℕ
item_lines d layered [] = []
item_lines d layered (i ∷ is) = item_line d layered (item_at layered.problem.items i.0) ++ item_lines d layered is

abbrev pub start_line : Design → Layered → Start → List ℕ
start_line d layered s = pin_line (codes "start") d (pin_of layered s.node.0) (class_of_node layered s.node.0) s.offset

abbrev pub end_line : Design → Layered → End → List ℕ
end_line d layered e = pin_line (codes "end") d (pin_of layered e.node.0) (class_of_node layered e.node.0) e.require

-- the slack, the classes, and the path with its start's offset, its arcs and its end's required time
unfoldable pub layered_text : Layered → Design → Constraints → ℤ → Path → List ℕ
layered_text layered d all slack path =
    slack_line slack
    ++ class_lines all (path_classes layered path) 0 layered.classes
    ++ start_line d layered (start_at layered.problem.starts path.start)
    ++ item_lines d layered path.items
    ++ end_line d layered (end_at layered.problem.ends path.end)

-- the item joins nodes of the layering
pub record IsItemIn (layered : Layered) (i : ItemId) : Type 0 where
  pub within : i.0 < length layered.problem.items
  pub from : (item_at layered.problem.items i.0).from.0 < length layered.nodes
  pub to : (item_at layered.problem.items i.0).to.0 < length layered.nodes

-- a layering of the design
abbrev pub IsOfDesign : Layered → Design → Type 0
IsOfDesign layered d = (arcs : ℕ) × IsSoundLayered (length d.pins) arcs layered

abbrev pub IsDrawn : Subject → Type 0
IsDrawn bare = ⊥
IsDrawn (raw problem) = Unit {0}
IsDrawn (pins d) = ⊥
IsDrawn (design layered d all) = IsOfDesign layered d

-- what is printed of a violated path
abbrev pub path_text : Subject → ℤ → Path → List ℕ
path_text bare slack path = []
path_text (raw problem) slack path = violated_text problem slack path
path_text (pins d) slack path = []
path_text (design layered d all) slack path = layered_text layered d all slack path
