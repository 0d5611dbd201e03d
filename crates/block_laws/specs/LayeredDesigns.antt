-- A design as the steps on it give it, up to its layering, and files that keep the piece law.
use Rattle.std.specs.Prelude.{◌≡◌, ℕ, ◌<◌, ℤ, List, length, All, AllPairs, Option}
use Rattle.bud_syntax.specs.Ranges.{IsReadCommand}
use Rattle.bud_design.specs.declared.clocks.Constraints.{Constraints}
use Rattle.bud_design.specs.declared.layers.Layered.{Layered}
use Rattle.bud_design.specs.declared.policies.NumberedCommand.{NumberedCommand}
use Rattle.bud_design.specs.declared.policies.Policy.{Policy}
use Rattle.bud_design.specs.declared.timings.Timing.{Timing}
use Rattle.bud_design.specs.Arcs.{Arc}
use Rattle.bud_design.specs.ConstraintRules.{AreSoundConstraints}
use Rattle.bud_design.specs.Designs.{Design, pin_at}
use Rattle.bud_design.specs.DesignRules.{IsDesign}
use Rattle.bud_design.specs.Layers.{IsLayering}
use Rattle.bud_design.specs.TimingRules.{IsSoundTiming, IsSoundLayered}
use Rattle.requirements.specs.Constraining.{AreConstraints}
use Rattle.requirements.specs.LeafTimings.{StandsInLeaves}
use Rattle.block_theory.specs.BlockFiles.{block_commands, numbered_from}
use Rattle.block_theory.specs.BlockPorts.{Context}
use Rattle.block_theory.specs.Composition.{BlockFile}
use Rattle.block_theory.specs.Meeting.{Numbers, AreNumbers, subject_with}
use Rattle.block_theory.specs.Pieces.{PieceLaw}
use Rattle.block_laws.specs.Standing.{HaveHomes, block_context}

-- a design with its timing, its arcs, the constraints that commands give it, and its layering
pub record IsLayeredDesign (d : Design) (t : Timing) (arcs : List Arc) (commands : List NumberedCommand) (all : Constraints) (policy : Policy) (layered : Layered) : Type 0 where
  pub design : IsDesign d
  pub timing : IsSoundTiming d t
  pub leaves : StandsInLeaves d t
  -- a check stands at one leaf, with its clock pin
  pub together : All (λ c. (pin_at d.pins c.pin.0).place ≡ (pin_at d.pins c.clock.0).place) t.checks
  pub homes : HaveHomes d arcs
  pub read : All (λ c. IsReadCommand c.command) commands
  pub numbers : AllPairs (λ a b. a.number < b.number) commands
  pub constraints : AreConstraints (record { design = d; root = 0; timing = t }) commands all
  pub sound : AreSoundConstraints (length d.pins) all
  pub layering : IsLayering (record { design = d; root = 0; arcs = arcs; all = all }) policy layered
  pub layered_sound : IsSoundLayered (length d.pins) (length arcs) layered

-- the commands of a block's file for arrivals are accepted at any setup amounts, and say which paths are its pieces
pub record KeepsPieceLaw (x : Context) (arcs : List Arc) (commands : List NumberedCommand) (arrivals : List ℤ) (f : BlockFile) : Type 0 where
  pub commands_are : f.commands ≡ numbered_from 1 (block_commands x arrivals)
  pub accepted : (n : Numbers) → AreNumbers arcs x.timing n → (block : Constraints) × AreConstraints (subject_with x.design x.block x.timing n) f.commands block
  pub pieces : PieceLaw x arcs commands arrivals

-- the files of blocks are such, each for its place
abbrev pub FilesKeepPieces : Design → Timing → List Arc → List NumberedCommand → Constraints → Layered → List (Option ℕ) → List ℤ → List BlockFile → Type 0
FilesKeepPieces d t arcs commands all layered reached arrivals files =
    All (λ f. KeepsPieceLaw (block_context d t all layered reached f.place) arcs commands arrivals f) files
