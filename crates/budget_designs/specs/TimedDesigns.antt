-- A flat design with its delays, its arcs and its constraints: what the files of a design come to.
use Rattle.std.specs.Prelude.{◌<◌, List, length, All}
use Rattle.bud_syntax.specs.declared.constraints.SdcCommand.{SdcCommand}
use Rattle.bud_syntax.specs.declared.delays.SdfRow.{SdfRow}
use Rattle.bud_design.specs.declared.clocks.Constraints.{Constraints}
use Rattle.bud_design.specs.declared.timings.Timing.{Timing}
use Rattle.bud_design.specs.Arcs.{Arc}
use Rattle.bud_design.specs.ConstraintRules.{AreSoundConstraints}
use Rattle.bud_design.specs.Designs.{Design}
use Rattle.bud_design.specs.DesignRules.{IsDesign}
use Rattle.bud_design.specs.TimingPaths.{View}
use Rattle.bud_design.specs.TimingRules.{IsSoundGraph, IsSoundTiming}
use Rattle.requirements.specs.LeafTimings.{StandsInLeaves}
use Rattle.budget_steps.specs.Steps.{Course, ◌>>=◌, comes_to}
use Rattle.budget_designs.specs.declared.design_files.DesignFiles.{DesignFiles}
use Rattle.budget_designs.specs.declared.timed_designs.TimedDesign.{TimedDesign}
use Rattle.budget_designs.specs.Designs.{elaborated, timed, joined, constrained, view_of}

-- as definitions see it: an order of the pins is no part of it
pub record Timed : Type 0 where
  pub design : Design
  pub timing : Timing
  pub arcs : List Arc
  pub constraints : Constraints

abbrev pub timed_of : TimedDesign → Timed
timed_of x = record { design = x.flat; timing = x.timing; arcs = x.graph.arcs; constraints = x.constraints }

abbrev pub timed_with : Design → Timing → List Arc → Constraints → Timed
timed_with d t arcs all = record { design = d; timing = t; arcs = arcs; constraints = all }

-- the whole design with its arcs and constraints
abbrev pub whole : Timed → View
whole t = view_of t.design t.arcs t.constraints

-- what delays and timing commands give a flat design
abbrev pub timed_below : Design → List SdfRow → List SdcCommand → Course Timed
timed_below d rows commands = do
  t ← timed d rows
  arcs ← joined d t
  all ← constrained d t commands
  comes_to (timed_with d t arcs all)

-- what the values of the files come to
abbrev pub timed_design : DesignFiles → Course Timed
timed_design files = do
  d ← elaborated files.netlist files.constraints.design
  timed_below d files.delays.rows files.constraints.commands

-- what is known of each
pub record IsSoundTimed (x : TimedDesign) : Type 0 where
  pub design : IsDesign x.flat
  pub timing : IsSoundTiming x.flat x.timing
  pub leaves : StandsInLeaves x.flat x.timing
  pub graph : IsSoundGraph x.flat x.graph
  pub constraints : AreSoundConstraints (length x.flat.pins) x.constraints
  pub unclocked : All (λ v. v.0 < length x.flat.pins) x.constraints.unclocked
