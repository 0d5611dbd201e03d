-- The layering: classes, nodes and items by the existence of constrained paths, and the problem that they make.
use Rattle.std.specs.Prelude.{◌≡◌, ℕ, ◌<◌, ◌≤◌, ◌==◌, ◌&&◌, ◌||◌, nat_lt, ℤ, ◌+ℤ◌, ◌⊎◌, Bool, true, false, List, [], ◌∷◌, ◌++◌, length, All, AllPairs, Contains, Some, slice_index_or}
use Rattle.std.specs.List.{AllZip}
use Rattle.bud_base.specs.declared.ids.ArcId.{ArcId}
use Rattle.bud_base.specs.declared.problems.Item.{Item}
use Rattle.bud_base.specs.declared.problems.Start.{Start}
use Rattle.bud_base.specs.declared.problems.End.{End}
use Rattle.bud_syntax.specs.declared.edges.Edge.TheVariants.{Rise}
use Rattle.bud_design.specs.declared.layers.Met.{Met}
use Rattle.bud_design.specs.declared.layers.Class.{Class}
use Rattle.bud_design.specs.declared.layers.LayerNode.{LayerNode}
use Rattle.bud_design.specs.declared.layers.LayerItem.{LayerItem}
use Rattle.bud_design.specs.declared.layers.Layered.{Layered}
use Rattle.bud_design.specs.declared.policies.Policy.{Policy}
use Rattle.bud_design.specs.Arcs.{arc_at}
use Rattle.bud_design.specs.Designs.{is_inside}
use Rattle.bud_design.specs.Reaching.{Walk}
use Rattle.bud_design.specs.Clocks.{clock_at}
use Rattle.bud_design.specs.Exceptions.{class_of, class_at, class_requirement}
use Rattle.bud_design.specs.Lists.{Lists}
use Rattle.bud_design.specs.Policies.{share, version_of}
use Rattle.bud_design.specs.TimingPaths.{View, TimingPath, IsConstrained, launch_at, path_start, passed, last_pin, least_asked}

abbrev pub class_number : List Class → ℕ → Class
class_number classes k = slice_index_or classes k (record { clock = 0; edge = Rise; exceptions = [] })

-- the class of the first arcs of a path
abbrev pub class_behind : View → TimingPath → List ArcId → Class
class_behind w path front = class_of w.all (path_start w path) (passed w.arcs (path_start w path).pin.0 front)

-- a constrained path has a front, which may be empty, that ends at the pin and has the class
pub record IsNode (w : View) (v : ℕ) (k : Class) : Type 0 where
  pub path : TimingPath
  pub room : ℤ
  pub constrained : IsConstrained w path room
  pub front : List ArcId
  pub rest : List ArcId
  pub parts : path.arcs ≡ front ++ rest
  pub pin_is : v ≡ last_pin w.arcs (path_start w path).pin.0 front
  pub class_is : k ≡ class_behind w path front

-- a constrained path uses the arc directly behind a front of the class
pub record IsItem (w : View) (a : ArcId) (k : Class) : Type 0 where
  pub path : TimingPath
  pub room : ℤ
  pub constrained : IsConstrained w path room
  pub front : List ArcId
  pub rest : List ArcId
  pub parts : path.arcs ≡ front ++ a ∷ rest
  pub class_is : k ≡ class_behind w path front

-- a class is live where it has a node
abbrev pub IsLive : View → Class → Type 0
IsLive w k = (v : ℕ) × IsNode w v k

-- a launch begins a constrained path with a front of the class, and no launch before it does
abbrev pub BeginsClass : View → ℕ → Class → Type 0
BeginsClass w n k = (v : ℕ) × ((node : IsNode w v k) × (node.path.launch ≡ n))

pub record IsFirstLaunch (w : View) (k : Class) (n : ℕ) : Type 0 where
  pub begins : BeginsClass w n k
  pub first : (m : ℕ) → BeginsClass w m k → n ≤ m

-- steps are compared from the first exception to the last
abbrev pub steps_before : List Met → List Met → Bool
steps_before [] ms = false
steps_before (l ∷ ls) [] = false
steps_before (l ∷ ls) (m ∷ ms) = nat_lt l.steps m.steps || (l.steps == m.steps && steps_before ls ms)

-- classes stand by their first launch, then by their steps
pub record StandsBefore (w : View) (j k : Class) : Type 0 where
  pub first : ℕ
  pub first_is : IsFirstLaunch w j first
  pub second : ℕ
  pub second_is : IsFirstLaunch w k second
  pub before : (first < second) ⊎ ((first ≡ second) × (steps_before j.exceptions k.exceptions ≡ true))

pub record AreClasses (w : View) (classes : List Class) : Type 0 where
  pub rising : AllPairs (StandsBefore w) classes
  pub live : All (IsLive w) classes
  pub complete : (k : Class) → IsLive w k → Contains classes k

-- a pin, or an arc, in a class of a number
pub record IsLayerNode (w : View) (classes : List Class) (x : LayerNode) : Type 0 where
  pub number : x.«class».0 < length classes
  pub node : IsNode w x.pin.0 (class_number classes x.«class».0)

pub record IsLayerItem (w : View) (classes : List Class) (x : LayerItem) : Type 0 where
  pub number : x.«class».0 < length classes
  pub item : IsItem w x.arc (class_number classes x.«class».0)

-- by class and then pin, by class and then arc
abbrev pub node_before : LayerNode → LayerNode → Bool
node_before x y = nat_lt x.«class».0 y.«class».0 || (x.«class».0 == y.«class».0 && nat_lt x.pin.0 y.pin.0)

abbrev pub item_before : LayerItem → LayerItem → Bool
item_before x y = nat_lt x.«class».0 y.«class».0 || (x.«class».0 == y.«class».0 && nat_lt x.arc.0 y.arc.0)

-- the node of this number stands for the pin in the class
pub record Stands (classes : List Class) (nodes : List LayerNode) (n : ℕ) (v : ℕ) (k : Class) : Type 0 where
  pub number : n < length nodes
  pub node : LayerNode
  pub node_is : slice_index_or nodes n node ≡ node
  pub pin_is : node.pin.0 ≡ v
  pub class_is : class_number classes node.«class».0 ≡ k

-- the item's nodes, its bounds and its weight
pub record IsProblemItem (w : View) (policy : Policy) (layered : Layered) (x : LayerItem) (item : Item) : Type 0 where
  pub from : Stands layered.classes layered.nodes item.from.0 (arc_at w.arcs x.arc.0).from (class_number layered.classes x.«class».0)
  pub to : Stands layered.classes layered.nodes item.to.0 (arc_at w.arcs x.arc.0).to (class_at w.all (class_number layered.classes x.«class».0) (arc_at w.arcs x.arc.0).to)
  pub least : item.least ≡ (arc_at w.arcs x.arc.0).least
  pub greatest : item.greatest ≡ item.least +ℤ (share w.design w.arcs policy.lines x.arc.0 (clock_at w.all.clocks (class_number layered.classes x.«class».0).clock)).extra
  pub weight : item.weight ≡ (share w.design w.arcs policy.lines x.arc.0 (clock_at w.all.clocks (class_number layered.classes x.«class».0).clock)).weight

-- a node whose class is that of a launch at its pin and no arcs, with the launch's offset
pub record IsProblemStart (w : View) (layered : Layered) (s : Start) : Type 0 where
  pub launch : ℕ
  pub number : launch < length w.all.launches
  pub node : Stands layered.classes layered.nodes s.node.0 (launch_at w.all.launches launch).pin.0 (class_of w.all (launch_at w.all.launches launch) ((launch_at w.all.launches launch).pin.0 ∷ []))
  pub offset : s.offset ≡ (launch_at w.all.launches launch).offset

-- a node with captures that have a requirement by its class, with what they ask for
pub record IsProblemEnd (w : View) (layered : Layered) (e : End) : Type 0 where
  pub pin : ℕ
  pub «class» : Class
  pub node : Stands layered.classes layered.nodes e.node.0 pin «class»
  pub require : least_asked w.all.captures pin (class_requirement w.all «class») ≡ Some e.require

-- the layering of a design under a policy
pub record IsLayering (w : View) (policy : Policy) (layered : Layered) : Type 0 where
  pub classes : AreClasses w layered.classes
  pub nodes : Lists node_before (IsLayerNode w layered.classes) layered.nodes
  pub items : Lists item_before (IsLayerItem w layered.classes) layered.items
  pub node_count : layered.problem.nodes ≡ length layered.nodes
  pub problem_items : AllZip (IsProblemItem w policy layered) layered.items layered.problem.items
  pub starts : Lists (λ s t. nat_lt s.node.0 t.node.0) (IsProblemStart w layered) layered.problem.starts
  pub ends : Lists (λ e f. nat_lt e.node.0 f.node.0) (IsProblemEnd w layered) layered.problem.ends
  pub version : layered.version ≡ version_of policy

-- arcs inside the root, and classes that go on by the groups that pins lie in
abbrev pub walk_of : View → Walk
walk_of w = record {
  Class = Class;
  arcs = w.arcs;
  Uses = λ x. (x.0 < length w.arcs) × (is_inside w.design.places w.root (arc_at w.arcs x.0).home ≡ true);
  go = class_at w.all;
}

-- a launch of such a number stands at the pin, and this is its class there
pub record BeginsAt (w : View) (From : ℕ → Type 0) (v : ℕ) (k : Class) : Type 0 where
  pub launch : ℕ
  pub number : launch < length w.all.launches
  pub from : From launch
  pub pin_is : (launch_at w.all.launches launch).pin.0 ≡ v
  pub class_is : k ≡ class_of w.all (launch_at w.all.launches launch) ((launch_at w.all.launches launch).pin.0 ∷ [])

-- captures at the pin have a requirement by the class
abbrev pub EndsAt : View → ℕ → Class → Type 0
EndsAt w v k = (asks : ℤ) × (least_asked w.all.captures v (class_requirement w.all k) ≡ Some asks)
