-- The paths of a layered problem and the constrained paths of the design, one for one.
use Rattle.std.specs.Prelude.{◌≡◌, ◌<◌, ℤ, List, [], ◌∷◌, map, length, slice_index_or}
use Rattle.bud_base.specs.Paths.{Path, IsPath, start_at, room, sum_along, least_of}
use Rattle.bud_base.specs.declared.ids.ArcId.{ArcId}
use Rattle.bud_base.specs.declared.ids.ItemId.{ItemId}
use Rattle.bud_design.specs.declared.layers.LayerItem.{LayerItem}
use Rattle.bud_design.specs.declared.layers.Layered.{Layered}
use Rattle.bud_design.specs.Exceptions.{class_of}
use Rattle.bud_design.specs.Layers.{Stands}
use Rattle.bud_design.specs.TimingPaths.{View, TimingPath, IsConstrained, path_start, sum_over, least_delay}

abbrev pub arc_of_item : List LayerItem → ItemId → ArcId
arc_of_item items i = (slice_index_or items i.0 (record { arc = record { 0 = 0 }; «class» = record { 0 = 0 } })).arc

-- a problem path stands for the launch of its start and the arcs of its items
pub record StandsFor (w : View) (layered : Layered) (p : Path) (path : TimingPath) : Type 0 where
  pub launch : path.launch < length w.all.launches
  pub start : Stands layered.classes layered.nodes (start_at layered.problem.starts p.start).node.0 (path_start w path).pin.0 (class_of w.all (path_start w path) ((path_start w path).pin.0 ∷ []))
  pub arcs : path.arcs ≡ map (arc_of_item layered.items) p.items

-- one to one and onto, with equal rooms, and equal sums at least delays
pub record Correspond (w : View) (layered : Layered) : Type 0 where
  pub back : (p : Path) → IsPath layered.problem p → (path : TimingPath) × (StandsFor w layered p path × IsConstrained w path (room layered.problem p))
  pub onto : (path : TimingPath) (r : ℤ) → IsConstrained w path r → (p : Path) × (IsPath layered.problem p × StandsFor w layered p path × (room layered.problem p ≡ r))
  pub one : (p q : Path) (path : TimingPath) → IsPath layered.problem p → IsPath layered.problem q → StandsFor w layered p path → StandsFor w layered q path → p ≡ q
  pub sums : (p : Path) (path : TimingPath) → IsPath layered.problem p → StandsFor w layered p path → sum_along (least_of layered.problem) p.items ≡ sum_over (least_delay w.arcs) path.arcs
