-- A sound graph has no cycle; arcs stand in a strict order.
use Rattle.std.specs.Prelude.{◌≡◌, ℕ, ◌<◌, List, [], ◌∷◌, length, All, Contains}
use Rattle.std.proofs.Common.{refl, sym, ◌∙◌, ap, subst, arith}
use Rattle.bud_base.specs.declared.ids.ArcId.{ArcId}
use Rattle.bud_design.specs.declared.timings.Timing.{Timing}
use Rattle.bud_design.specs.Arcs.{Arc, Graph, arc_at, arc_before, Leads, IsArcCycle}
use Rattle.bud_design.specs.Designs.{Design}
use Rattle.bud_design.specs.DesignRules.{IsDesign}
use Rattle.bud_design.specs.TimingRules.{StartsInLeaf, IsSoundTiming, IsSoundArc, IsSoundGraph}
use Rattle.bud_design.proofs.ArcOrders.{Leads-never_back}
use Rattle.bud_design.proofs.TableLaws.{table-same}
use Rattle.timing_graph.specs.Graphs.{AreArcs, IsGraph, all_arcs}
use Rattle.timing_graph.proofs.ArcLists.{AreArcs-sound}
use Rattle.timing_graph.proofs.PinOrders.{before-never_itself, before-trans}

pub no-cycle : (d : Design) (g : Graph) (ring : List ArcId) → IsSoundGraph d g → IsArcCycle g.arcs ring → ⊥
no-cycle d g ring sound cycle =
    let closed : Leads g.arcs (arc_at g.arcs cycle.first.0).from (cycle.first ∷ cycle.others) (arc_at g.arcs cycle.first.0).from
    = subst (λ r. Leads g.arcs (arc_at g.arcs cycle.first.0).from r (arc_at g.arcs cycle.first.0).from) cycle.list_is cycle.closed in
    let arc = sound.arcs cycle.first.0 (arc_at [] 0) closed.0 in
    Leads-never_back (length d.pins) g.arcs g.order sound.order (λ i below. (sound.arcs i (arc_at [] 0) below).to) cycle.first cycle.others
    (arc_at g.arcs cycle.first.0).from arc.from closed

pub one-list_of_arcs : (d : Design) (t : Timing) (xs ys : List Arc) → AreArcs d t xs → AreArcs d t ys → xs ≡ ys
one-list_of_arcs d t xs ys =
    table-same arc_before (λ x. before-never_itself x.from x.to) (λ x y z first second. before-trans x.from x.to y.from y.to z.from z.to first second) (Contains (all_arcs d t)) xs ys

pub IsSoundGraph-from_graph : (d : Design) (t : Timing) (g : Graph) → IsDesign d → IsSoundTiming d t → All (StartsInLeaf d) t.pairs → IsGraph d t g → IsSoundGraph d g
IsSoundGraph-from_graph d t g design timing leaves is =
    record { arcs = AreArcs-sound d t design timing leaves g.arcs is.arcs; arc_order = is.arcs.rising; order = is.order }
