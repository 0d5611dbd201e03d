-- The nodes and items of a path of a layered problem are the layering's.
use Rattle.std.proofs.Common.{◌≡◌, ◌<◌, ℕ, List, [], ◌∷◌, length, All, subst}
use Rattle.std.proofs.lemmas.List.Elements.{All-nil, All-cons}
use Rattle.bud_base.specs.Paths.{Path, IsPath, Joins, item_at, start_at, end_at}
use Rattle.bud_base.specs.declared.ids.ItemId.{ItemId}
use Rattle.bud_design.specs.declared.layers.Layered.{Layered}
use Rattle.bud_design.specs.Designs.{Design}
use Rattle.budget_report.specs.DesignPaths.{IsItemIn, IsOfDesign, pin_of}

within : (layered : Layered) (d : Design) → IsOfDesign layered d → (n : ℕ) → n < layered.problem.nodes → n < length layered.nodes
within layered d is n below = subst (λ (k : ℕ). n < k) is.1.node_count below

items-within : (layered : Layered) (d : Design) → IsOfDesign layered d → (a b : ℕ) (is : List ItemId) → Joins layered.problem.items a is b → All (IsItemIn layered) is
items-within layered d of a b [] joined = All-nil _
items-within layered d of a b (i ∷ is) joined =
    let item = of.1.problem.items i.0 (item_at [] 0) joined.0 in
    All-cons (IsItemIn layered) i is
    (record { within = joined.0; from = within layered d of (item_at layered.problem.items i.0).from.0 item.from; to = within layered d of (item_at layered.problem.items i.0).to.0 item.to })
    (items-within layered d of (item_at layered.problem.items i.0).to.0 b is joined.2)

pub path_items : (layered : Layered) (d : Design) (path : Path) → IsOfDesign layered d → IsPath layered.problem path → All (IsItemIn layered) path.items
path_items layered d path of is =
    items-within layered d of (start_at layered.problem.starts path.start).node.0 (end_at layered.problem.ends path.end).node.0 path.items is.joined

pub path_start : (layered : Layered) (d : Design) (path : Path) → IsOfDesign layered d → IsPath layered.problem path → (start_at layered.problem.starts path.start).node.0 < length layered.nodes
path_start layered d path of is = within layered d of (start_at layered.problem.starts path.start).node.0 (of.1.problem.starts path.start (start_at [] 0) is.start).node

pub path_end : (layered : Layered) (d : Design) (path : Path) → IsOfDesign layered d → IsPath layered.problem path → (end_at layered.problem.ends path.end).node.0 < length layered.nodes
path_end layered d path of is = within layered d of (end_at layered.problem.ends path.end).node.0 (of.1.problem.ends path.end (end_at [] 0) is.end).node

pub node_pin : (layered : Layered) (d : Design) (n : ℕ) → IsOfDesign layered d → n < length layered.nodes → pin_of layered n < length d.pins
node_pin layered d n of below = of.1.nodes n (record { pin = record { 0 = 0 }; «class» = record { 0 = 0 } }) below
