-- What a cause or a violated path speaks of, beside a file.
use Rattle.std.specs.Prelude.{ℕ, []}
use Rattle.bud_base.specs.declared.problems.Problem.{Problem}
use Rattle.bud_design.specs.declared.clocks.Constraints.{Constraints}
use Rattle.bud_design.specs.declared.layers.Layered.{Layered}
use Rattle.bud_design.specs.Designs.{Design}
use Rattle.budget_report.specs.declared.scenes.Scene.{Scene}
use Rattle.budget_report.specs.declared.scenes.Scene.TheVariants.{Bare, Raw, Pins, Design as Layers}

-- nothing, a raw problem, a flat design, or a design with its constraints and its layering
pub data Subject : Type 0 where
  bare : Subject
  raw : (problem : Problem) → Subject
  pins : (d : Design) → Subject
  design : (layered : Layered) → (d : Design) → (all : Constraints) → Subject

abbrev pub subject_of : Scene → Subject
subject_of Bare = bare
subject_of (Raw problem) = raw problem.now
subject_of (Pins flat) = pins flat.now
subject_of (Layers layered flat all) = design layered.now flat.now all.now

abbrev pub no_problem : Problem
no_problem = record { nodes = 0; items = []; starts = []; ends = [] }

-- the problem that is spoken of, or else one without nodes
abbrev pub problem_of : Subject → Problem
problem_of bare = no_problem
problem_of (raw problem) = problem
problem_of (pins d) = no_problem
problem_of (design layered d all) = layered.problem

-- the design that is spoken of, or else one without pins
abbrev pub design_of : Subject → Design
design_of bare = record { places = []; pins = []; wires = [] }
design_of (raw problem) = record { places = []; pins = []; wires = [] }
design_of (pins d) = d
design_of (design layered d all) = d

-- it has a design
abbrev pub HasDesign : Subject → Type 0
HasDesign bare = ⊥
HasDesign (raw problem) = ⊥
HasDesign (pins d) = Unit {0}
HasDesign (design layered d all) = Unit {0}
