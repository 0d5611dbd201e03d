-- The timing graph: arcs with their homes, a topological order of the pins, and cycles.
use Rattle.std.specs.Prelude.{◌≡◌, ℕ, ℤ, slice_set, List, [], ◌∷◌, ◌++◌, map, length, Contains, Result, Ok, Err, if◌then◌else◌}
use Rattle.bud_base.specs.declared.ids.ArcId.{ArcId}
use Rattle.bud_design.specs.declared.designs.Wire.{Wire}
use Rattle.bud_design.specs.declared.timings.Timing.{Timing}
use Rattle.timing_graph.specs.declared.faults.PinPair.{PinPair}
use Rattle.timing_graph.specs.declared.faults.GraphFault.{GraphFault}
use Rattle.timing_graph.specs.declared.faults.GraphFault.TheVariants.{Cycle, NoMemory}
use Rattle.bud_design.specs.Arcs.{IsTopological, arc_before, Graph, Arc, is_clocked, IsArcCycle, arc_at}
use Rattle.bud_design.specs.Designs.{Design, pin_at}
use Rattle.bud_design.specs.Lists.{Lists}

-- wires that don't end at a clock pin of a register
abbrev pub wire_arcs : Timing → List Wire → List ℤ → List Arc
wire_arcs t [] numbers = []
wire_arcs t (w ∷ ws) [] = []
wire_arcs t (w ∷ ws) (z ∷ zs) =
    if is_clocked t w.to.0 then wire_arcs t ws zs
    else record { from = w.from.0; to = w.to.0; least = z; home = w.home } ∷ wire_arcs t ws zs

-- pairs of cell and launch arcs, whose home is their leaf
abbrev pub pair_arcs : Design → Timing → List Arc
pair_arcs d t = map (λ x. record { from = x.from.0; to = x.to.0; least = x.value; home = (pin_at d.pins x.from.0).place }) t.pairs

abbrev pub all_arcs : Design → Timing → List Arc
all_arcs d t = wire_arcs t d.wires t.wires ++ pair_arcs d t

-- the arcs with one least delay changed
abbrev pub with_least : List Arc → ℕ → ℤ → List Arc
with_least arcs a amount = slice_set arcs a (record { from = (arc_at arcs a).from; to = (arc_at arcs a).to; least = amount; home = (arc_at arcs a).home })

-- the arcs in order of their pairs of pins
abbrev pub AreArcs : Design → Timing → List Arc → Type 0
AreArcs d t arcs = Lists arc_before (Contains (all_arcs d t)) arcs

abbrev pub pins_of_arc : List Arc → ArcId → PinPair
pins_of_arc arcs a = record { from = record { 0 = (arc_at arcs a.0).from }; to = record { 0 = (arc_at arcs a.0).to } }

-- the graph of a design under a timing
pub record IsGraph (d : Design) (t : Timing) (g : Graph) : Type 0 where
  pub arcs : AreArcs d t g.arcs
  pub order : IsTopological (length d.pins) g.arcs g.order

-- the pairs are a cycle of the arcs
pub record IsCycleOf (d : Design) (t : Timing) (pairs : List PinPair) : Type 0 where
  pub arcs : List Arc
  pub are_arcs : AreArcs d t arcs
  pub cycle : List ArcId
  pub is_cycle : IsArcCycle arcs cycle
  pub pairs_are : pairs ≡ map (pins_of_arc arcs) cycle

-- what each answer of `arcs` says
abbrev pub IsArcsAnswer : Design → Timing → Result Graph GraphFault → Type 0
IsArcsAnswer d t (Ok g) = IsGraph d t g
IsArcsAnswer d t (Err (Cycle pairs)) = IsCycleOf d t pairs
IsArcsAnswer d t (Err NoMemory) = Unit {0}
