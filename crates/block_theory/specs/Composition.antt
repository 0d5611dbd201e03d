-- What the constraint files of blocks promise: they are accepted, they compose, and the budgets meet them.
use Rattle.std.specs.Prelude.{◌≡◌, ℕ, ◌<◌, ◌==◌, ℤ, pos, ◌≤ℤ◌, false, List, map, length, filter, All, unwrap_or, slice_index_or}
use Rattle.std.specs.List.{range_with_len}
use Rattle.bud_base.specs.declared.ids.ItemId.{ItemId}
use Rattle.bud_syntax.specs.declared.constraints.SdcFile.{SdcFile}
use Rattle.bud_syntax.specs.declared.edges.Edge.TheVariants.{Rise}
use Rattle.bud_design.specs.declared.clocks.Constraints.{Constraints}
use Rattle.bud_design.specs.declared.layers.Layered.{Layered}
use Rattle.bud_design.specs.declared.policies.NumberedCommand.{NumberedCommand}
use Rattle.bud_design.specs.declared.timings.Check.{Check}
use Rattle.bud_design.specs.declared.timings.Timing.{Timing}
use Rattle.bud_design.specs.Arcs.{Arc, arc_at}
use Rattle.bud_design.specs.Correspondences.{arc_of_item}
use Rattle.bud_design.specs.Designs.{Design, pin_at, is_inside}
use Rattle.bud_design.specs.Lists.{least}
use Rattle.bud_flow.specs.Sums.{number_at}
use Rattle.block_theory.specs.BlockFiles.{IsBlockFile, numbered_from}
use Rattle.block_theory.specs.Blocks.{IsGlue}
use Rattle.block_theory.specs.Meeting.{Numbers, AreNumbers, delay_in, Accepts, MeetsCommands}

-- the file of a block: commands for its place
pub record BlockFile : Type 0 where
  pub place : ℕ
  pub commands : List NumberedCommand

abbrev pub places_of : List BlockFile → List ℕ
places_of files = map (λ f. f.place) files

-- a glue arc takes at most its budget in every class in which it is an item
abbrev pub GlueKeeps : Design → List Arc → List ℕ → Layered → List ℤ → Numbers → Type 0
GlueKeeps d arcs blocks layered budgets n =
    (i : ItemId) → i.0 < length layered.items → IsGlue d arcs blocks (arc_of_item layered.items i)
    → delay_in n (arc_of_item layered.items i) ≤ℤ number_at budgets i.0

-- checks outside all blocks have the amounts as read
abbrev pub check_at : List Check → ℕ → Check
check_at checks i = slice_index_or checks i (record { pin = record { 0 = 0 }; clock = record { 0 = 0 }; edge = Rise; amount = pos 0 })

abbrev pub IsOutside : Design → List ℕ → ℕ → Type 0
IsOutside d blocks v = All (λ b. is_inside d.places b (pin_at d.pins v).place ≡ false) blocks

abbrev pub AmountsKept : Design → Timing → List ℕ → Numbers → Type 0
AmountsKept d t blocks n =
    (i : ℕ) → i < length t.checks → IsOutside d blocks (check_at t.checks i).pin.0 → number_at n.amounts i ≡ (check_at t.checks i).amount

-- composition: where each block meets its file, and glue and the amounts outside keep, the whole design meets its commands
abbrev pub Compose : Design → Timing → List Arc → List NumberedCommand → Layered → List ℤ → List BlockFile → Type 0
Compose d t arcs commands layered budgets files =
    (n : Numbers) → AreNumbers arcs t n
    → All (λ f. MeetsCommands d f.place t arcs f.commands n) files
    → GlueKeeps d arcs (places_of files) layered budgets n → AmountsKept d t (places_of files) n
    → MeetsCommands d 0 t arcs commands n

-- the numbers that budgets give: each arc the least of its items' budgets, or its least delay where it has no item; checks as read
abbrev pub budgets_of : Layered → List ℤ → ℕ → List ℤ
budgets_of layered budgets a =
    map (number_at budgets) (filter (λ i. (arc_of_item layered.items (record { 0 = i })).0 == a) (range_with_len 0 (length layered.items)))

abbrev pub least_budget : List Arc → Layered → List ℤ → ℕ → ℤ
least_budget arcs layered budgets a = unwrap_or (least (budgets_of layered budgets a)) (arc_at arcs a).least

abbrev pub budget_numbers : Timing → List Arc → Layered → List ℤ → Numbers
budget_numbers t arcs layered budgets = record {
  delays = map (least_budget arcs layered budgets) (range_with_len 0 (length arcs));
  amounts = map (λ x. x.amount) t.checks;
}

-- the file of its place for these arrivals
pub record IsWrittenFor (d : Design) (t : Timing) (all : Constraints) (layered : Layered) (arrivals : List ℤ) (f : BlockFile) : Type 0 where
  pub file : SdcFile
  pub is_file : IsBlockFile d t all layered arrivals f.place file
  pub commands : f.commands ≡ numbered_from 1 file.commands

-- what the files of blocks promise: they are accepted, they compose, and the budgets meet each of them
pub record AreFilesOf (d : Design) (t : Timing) (arcs : List Arc) (commands : List NumberedCommand) (layered : Layered) (budgets : List ℤ) (files : List BlockFile) : Type 0 where
  pub accepted : All (λ f. Accepts d f.place t f.commands) files
  pub compose : Compose d t arcs commands layered budgets files
  pub met : All (λ f. MeetsCommands d f.place t arcs f.commands (budget_numbers t arcs layered budgets)) files
