-- Walks over arcs with flow, from nodes to the root.
use Rattle.std.specs.Prelude.{◌≡◌, ◌≢◌, ◌==◌, Bool, true, false, ℕ, ℤ, pos, ◌+◌, ◌-◌, ◌<◌, ◌≤◌, ◌+ℤ◌, ◌-ℤ◌, ◌<ℤ◌, ◌≤ℤ◌, ◌⊎◌, Option, Some, None, List, [], ◌∷◌, length, slice_index_or, nat_lt, if◌then◌else◌}
use Rattle.bud_flow.specs.Sums.{sum_below, number_at}
use Rattle.residual.specs.Arcs.{arc_at}
use Rattle.residual.specs.Excesses.{excess_of}
use Rattle.residual.specs.Trims.{AreLess}
use Rattle.residual.specs.declared.arcs.Arc.{Arc}
use Rattle.residual.specs.declared.walks.Way.{Way}

abbrev pub way_at : List (Option Way) → ℕ → Option Way
way_at ways v = slice_index_or ways v None

abbrev pub IsMarked : List (Option Way) → ℕ → Type 0
IsMarked ways v = (w : Way) × (way_at ways v ≡ Some w)

-- how many nodes were marked before a node, counted from 1, and 0 for a node without mark
abbrev pub rank_of : Option Way → ℕ
rank_of None = 0
rank_of (Some w) = w.place + 1

abbrev pub rank_at : List (Option Way) → ℕ → ℕ
rank_at ways v = rank_of (way_at ways v)

-- a node leads over an arc without limit to the root, or to a node that was marked before
pub record IsWay (arcs : List Arc) (first root : ℕ) (ways : List (Option Way)) (count v : ℕ) (w : Way) : Type 0 where
  pub above : first ≤ w.arc
  pub below : w.arc < length arcs
  pub from : (arc_at arcs w.arc).from.0 ≡ v
  pub place : w.place < count
  pub on : ((arc_at arcs w.arc).to.0 ≡ root) ⊎ IsMarked ways (arc_at arcs w.arc).to.0
  pub earlier : rank_at ways (arc_at arcs w.arc).to.0 < w.place + 1

-- all marks lead on to the root, which has none
pub record AreWays (arcs : List Arc) (first root : ℕ) (ways : List (Option Way)) (count : ℕ) : Type 0 where
  pub each : (v : ℕ) (w : Way) → way_at ways v ≡ Some w → IsWay arcs first root ways count v w
  pub bare : way_at ways root ≡ None

-- the arcs of all marks have flow
abbrev pub HaveFlow : List ℤ → List (Option Way) → Type 0
HaveFlow flows ways = (v : ℕ) (w : Way) → way_at ways v ≡ Some w → pos 0 <ℤ number_at flows w.arc

-- an arc with flow that leads to the root or to a marked node comes from a marked node
abbrev pub IsCovered : List Arc → List ℤ → ℕ → List (Option Way) → ℕ → Type 0
IsCovered arcs flows root ways j =
    pos 0 <ℤ number_at flows j → (arc_at arcs j).from.0 ≢ root → ((arc_at arcs j).to.0 ≡ root) ⊎ IsMarked ways (arc_at arcs j).to.0 → IsMarked ways (arc_at arcs j).from.0

-- an arc with flow that leads to the root or to a marked node, from a node that isn't marked
pub record LeadsOn (arcs : List Arc) (flows : List ℤ) (root : ℕ) (ways : List (Option Way)) (j : ℕ) : Type 0 where
  pub flow : pos 0 <ℤ number_at flows j
  pub inner : (arc_at arcs j).from.0 ≢ root
  pub free : way_at ways (arc_at arcs j).from.0 ≡ None
  pub on : ((arc_at arcs j).to.0 ≡ root) ⊎ IsMarked ways (arc_at arcs j).to.0

-- how many nodes are not marked
abbrev pub unmarked_count : List (Option Way) → ℕ
unmarked_count [] = 0
unmarked_count (None ∷ ways) = 1 + unmarked_count ways
unmarked_count (Some w ∷ ways) = unmarked_count ways

-- the node lies on the walk from another to the root
pub data OnWalk (arcs : List Arc) (ways : List (Option Way)) (node : ℕ) : ℕ → Type 0 where
  stay : OnWalk arcs ways node node
  walk : (v : ℕ) (w : Way) → OnWalk arcs ways node v → way_at ways v ≡ Some w → OnWalk arcs ways node (arc_at arcs w.arc).to.0

-- every arc of the walk carries at least the amount
abbrev pub CarryOnWalk : List Arc → List ℤ → List (Option Way) → ℕ → ℤ → Type 0
CarryOnWalk arcs flows ways node amount = (v : ℕ) (w : Way) → OnWalk arcs ways node v → way_at ways v ≡ Some w → amount ≤ℤ number_at flows w.arc

-- the amount was taken off the walk from a node as far as another
pub record AreTakenOff (arcs : List Arc) (root : ℕ) (old new : List ℤ) (ways : List (Option Way)) (node : ℕ) (amount : ℤ) (at_node : ℕ) : Type 0 where
  pub less : AreLess old new
  pub kept : (j : ℕ) → ((v : ℕ) (w : Way) → way_at ways v ≡ Some w → w.arc ≢ j) → number_at new j ≡ number_at old j
  pub rest : (j : ℕ) → number_at old j ≤ℤ (number_at new j +ℤ (if nat_lt (rank_at ways at_node) (rank_at ways (arc_at arcs j).from.0) then amount else pos 0))
  pub excess : (v : ℕ) → excess_of arcs new v ≡ excess_of arcs old v +ℤ ((if node == v then amount else pos 0) -ℤ (if at_node == v then amount else pos 0))
  pub on : OnWalk arcs ways node at_node
  pub open_end : (at_node ≡ root) ⊎ IsMarked ways at_node

-- walks through the root, over arcs from number `first` on, were taken off: no excess has changed
pub record AreWalksTaken (arcs : List Arc) (first : ℕ) (old new : List ℤ) : Type 0 where
  pub less : AreLess old new
  pub kept : (j : ℕ) → j < first → number_at new j ≡ number_at old j
  pub excess : (v : ℕ) → excess_of arcs new v ≡ excess_of arcs old v

-- the walk of a start was taken off, and where all marks have flow there was some
pub record IsWalkTaken (arcs : List Arc) (first start : ℕ) (ways : List (Option Way)) (old new : List ℤ) : Type 0 where
  pub taken : AreWalksTaken arcs first old new
  pub once : (j : ℕ) → (number_at old j -ℤ number_at new j) ≤ℤ (number_at old start -ℤ number_at new start)
  pub lower : HaveFlow old ways → number_at new start <ℤ number_at old start

-- the flows of the arcs between two numbers together
abbrev pub flow_between : ℕ → ℕ → List ℤ → ℤ
flow_between from to flows = sum_below (to - from) (λ k. number_at flows (from + k))

-- no arc has lost more than the arcs between two numbers together
abbrev pub LoseAtMost : ℕ → ℕ → List ℤ → List ℤ → Type 0
LoseAtMost from to old new = (j : ℕ) → (number_at old j -ℤ number_at new j) ≤ℤ (flow_between from to old -ℤ flow_between from to new)

-- the arc of a start with flow at a marked node
pub record IsOpenStart (arcs : List Arc) (flows : List ℤ) (ways : List (Option Way)) (start : ℕ) : Type 0 where
  pub flow : pos 0 <ℤ number_at flows start
  pub marked : IsMarked ways (arc_at arcs start).to.0

-- no start's arc between these numbers has flow at a marked node
abbrev pub NoneOpen : List Arc → List ℤ → List (Option Way) → ℕ → ℕ → Type 0
NoneOpen arcs flows ways from to = (j : ℕ) → from ≤ j → j < to → pos 0 <ℤ number_at flows j → way_at ways (arc_at arcs j).to.0 ≡ None

-- the arc of an open start, whose flow has fallen
pub record IsLower (arcs : List Arc) (ways : List (Option Way)) (from to : ℕ) (old new : List ℤ) : Type 0 where
  pub start : ℕ
  pub above : from ≤ start
  pub below : start < to
  pub was_open : IsOpenStart arcs old ways start
  pub lower : number_at new start <ℤ number_at old start

-- whether walks of these starts were taken off, or there was none
abbrev pub IsTakenAnswer : List Arc → List (Option Way) → ℕ → ℕ → List ℤ → List ℤ → Bool → Type 0
IsTakenAnswer arcs ways from to old new true = IsLower arcs ways from to old new
IsTakenAnswer arcs ways from to old new false = (new ≡ old) × NoneOpen arcs new ways from to

-- the arc of an open start, and marks that lead on from it to the root over arcs with flow
pub record HasWalk (arcs : List Arc) (flows : List ℤ) (first root from to : ℕ) : Type 0 where
  pub ways : List (Option Way)
  pub count : ℕ
  pub marks : AreWays arcs first root ways count
  pub flow : HaveFlow flows ways
  pub start : ℕ
  pub above : from ≤ start
  pub below : start < to
  pub open_start : IsOpenStart arcs flows ways start

-- marks between two looks at the arcs: those from `next` on are covered, if nothing was marked since
pub record IsSpreading (arcs : List Arc) (flows : List ℤ) (first root : ℕ) (ways : List (Option Way)) (before place next : ℕ) : Type 0 where
  pub marks : AreWays arcs first root ways place
  pub flow : HaveFlow flows ways
  pub grown : before ≤ place
  pub covered : place ≡ before → (j : ℕ) → next ≤ j → j < length arcs → IsCovered arcs flows root ways j

-- marks that part the network: from number `first` on, arcs with flow lead to the root and to marked nodes from marked nodes alone,
-- and no start's arc has flow at a marked node
pub record AreParted (arcs : List Arc) (flows : List ℤ) (first root from to : ℕ) (ways : List (Option Way)) : Type 0 where
  pub bare : way_at ways root ≡ None
  pub covered : (j : ℕ) → first ≤ j → j < length arcs → IsCovered arcs flows root ways j
  pub none : NoneOpen arcs flows ways from to
