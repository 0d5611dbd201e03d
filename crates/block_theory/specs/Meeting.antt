-- What it means that timing commands are accepted of a design below a root, and that it meets them under any delays and setup amounts.
use Rattle.std.specs.Prelude.{◌≡◌, ℕ, ℤ, List, [], ◌∷◌, length}
use Rattle.bud_base.specs.declared.ids.ArcId.{ArcId}
use Rattle.bud_design.specs.declared.timings.Check.{Check}
use Rattle.bud_design.specs.declared.timings.Timing.{Timing}
use Rattle.bud_design.specs.declared.clocks.Constraints.{Constraints}
use Rattle.bud_design.specs.declared.policies.NumberedCommand.{NumberedCommand}
use Rattle.bud_design.specs.Arcs.{Arc}
use Rattle.bud_design.specs.Designs.{Design}
use Rattle.bud_design.specs.TimingPaths.{MeetsUnder}
use Rattle.bud_flow.specs.Sums.{number_at}
use Rattle.requirements.specs.Constraining.{AreConstraints}
use Rattle.timing_objects.specs.Objects.{Subject}

-- a delay for each arc and an amount for each setup check, in ps, of any sign
pub record Numbers : Type 0 where
  pub delays : List ℤ
  pub amounts : List ℤ

pub record AreNumbers (arcs : List Arc) (t : Timing) (n : Numbers) : Type 0 where
  pub delays : length n.delays ≡ length arcs
  pub amounts : length n.amounts ≡ length t.checks

abbrev pub delay_in : Numbers → ArcId → ℤ
delay_in n x = number_at n.delays x.0

-- a timing with other setup amounts
abbrev pub with_amounts : List Check → List ℤ → List Check
with_amounts [] amounts = []
with_amounts (x ∷ xs) [] = []
with_amounts (x ∷ xs) (z ∷ zs) = record { pin = x.pin; clock = x.clock; edge = x.edge; amount = z } ∷ with_amounts xs zs

abbrev pub timing_with : Timing → Numbers → Timing
timing_with t n = record { wires = t.wires; pairs = t.pairs; checks = with_amounts t.checks n.amounts; edges = t.edges; left_out = t.left_out }

-- the design below a root with these setup amounts
abbrev pub subject_with : Design → ℕ → Timing → Numbers → Subject
subject_with d root t n = record { design = d; root = root; timing = timing_with t n }

-- the commands are accepted of the design below the root: each name means something that it may name there
abbrev pub Accepts : Design → ℕ → Timing → List NumberedCommand → Type 0
Accepts d root t commands = (all : Constraints) × AreConstraints (record { design = d; root = root; timing = t }) commands all

-- under these delays and amounts every constrained path of the design below the root takes at most its room; root 0 is the whole design
abbrev pub MeetsCommands : Design → ℕ → Timing → List Arc → List NumberedCommand → Numbers → Type 0
MeetsCommands d root t arcs commands n =
    (all : Constraints) → AreConstraints (subject_with d root t n) commands all
    → MeetsUnder (record { design = d; root = root; arcs = arcs; all = all }) (delay_in n)
