-- The state that edits change.
use Rattle.std.specs.Prelude.{ℕ, suc, ◌+◌, ◌<◌, List, [], ◌∷◌, length, All, AllPairs}
use Rattle.bud_syntax.specs.declared.constraints.SdcCommand.{SdcCommand}
use Rattle.bud_design.specs.declared.clocks.Constraints.{Constraints}
use Rattle.bud_design.specs.declared.policies.NumberedCommand.{NumberedCommand}
use Rattle.bud_design.specs.declared.policies.Policy.{Policy}
use Rattle.bud_design.specs.declared.timings.Timing.{Timing}
use Rattle.bud_design.specs.Arcs.{Arc}
use Rattle.bud_design.specs.Designs.{Design}
use Rattle.bud_design.specs.TimingPaths.{View}
use Rattle.timing_objects.specs.Objects.{Subject}

-- the flat design, what its delay file says of registers, its arcs with their least delays, the timing commands with their
-- numbers and the number of the next one, and the policy
pub record State : Type 0 where
  pub design : Design
  pub timing : Timing
  pub arcs : List Arc
  pub commands : List NumberedCommand
  pub next : ℕ
  pub policy : Policy

-- these commands, the first of them with this number
abbrev pub numbered_from : ℕ → List SdcCommand → List NumberedCommand
numbered_from n [] = []
numbered_from n (command ∷ commands) = record { number = n; command = command } ∷ numbered_from (suc n) commands

-- the state of a design with the commands of a constraints text, which are numbered from 1
abbrev pub begun : Design → Timing → List Arc → List SdcCommand → Policy → State
begun design timing arcs commands policy = record {
  design = design;
  timing = timing;
  arcs = arcs;
  commands = numbered_from 1 commands;
  next = length commands + 1;
  policy = policy;
}

-- the numbers of its commands rise, and the next number is none of them
pub record HasNumbers (s : State) : Type 0 where
  pub rising : AllPairs (λ c d. c.number < d.number) s.commands
  pub below : All (λ c. c.number < s.next) s.commands

-- the whole design, in which commands name objects
abbrev pub subject_of : State → Subject
subject_of s = record { design = s.design; root = 0; timing = s.timing }

-- the same with its arcs and constraints
abbrev pub view_of : State → Constraints → View
view_of s all = record { design = s.design; root = 0; arcs = s.arcs; all = all }
