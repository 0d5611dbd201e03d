-- What is said of a design by its layering: words of the functions that go from the layering to the design's paths.
use Rattle.std.specs.Prelude.{◌≡◌, ◌⊎◌, ◌<◌, ℕ, ℤ, pos, ◌≤ℤ◌, ◌<ℤ◌, List, [], length, All, AllPairs, Result, Ok, Err}
use Rattle.bud_base.specs.Paths.{Path, IsLeastSlack, IsPathOfSlack, HasNoPath}
use Rattle.bud_syntax.specs.Ranges.{IsReadCommand}
use Rattle.bud_design.specs.declared.clocks.Constraints.{Constraints}
use Rattle.bud_design.specs.declared.layers.Layered.{Layered}
use Rattle.bud_design.specs.declared.policies.NumberedCommand.{NumberedCommand}
use Rattle.bud_design.specs.Designs.{Design}
use Rattle.budget_report.specs.declared.statuses.Status.{Status}
use Rattle.budget_report.specs.declared.statuses.Status.TheVariants.{Done, Violated}
use Rattle.budget_report.specs.DesignPaths.{layered_text}
use Rattle.budget_report.specs.Violations.{meets_text, no_paths_text}
use Rattle.budget_steps.specs.declared.outcomes.Answer.{Answer}
use Rattle.budget_steps.specs.declared.outcomes.Stop.{Stop}
use Rattle.budget_steps.specs.Steps.{Course, Follows}

-- the answer by the problem of the layering
abbrev pub IsLayeredMeasure : Layered → Design → Constraints → Status → List ℕ → Type 0
IsLayeredMeasure layered d all Done text =
    (HasNoPath layered.problem × (text ≡ no_paths_text))
    ⊎ ((s : ℤ) × (IsLeastSlack layered.problem s × (pos 0 ≤ℤ s) × (text ≡ meets_text s)))
IsLayeredMeasure layered d all Violated text =
    (s : ℤ) × ((path : Path) × (IsLeastSlack layered.problem s × (s <ℤ pos 0) × IsPathOfSlack layered.problem s path × (text ≡ layered_text layered d all s path)))
IsLayeredMeasure layered d all _ text = ⊥

abbrev pub layer_measured : Layered → Design → Constraints → Course Answer
layer_measured layered d all (Ok answer) = IsLayeredMeasure layered d all answer.said.status answer.said.text × (answer.writes ≡ [])
layer_measured layered d all (Err r) = ⊥

-- the function goes this course, where its value is seen so
abbrev pub FollowsAs : {A B : Type 0} → (A → B) → Course B → Result A Stop → Type 0
FollowsAs view course (Ok a) = course (Ok (view a))
FollowsAs {A} {B} view course (Err stop) = Follows {A = B} course (Err stop)

-- commands that `resolve` takes
pub record AreResolvable (commands : List NumberedCommand) : Type 0 where
  pub few : length commands < 2147483648
  pub read : All (λ c. IsReadCommand c.command) commands
  pub rising : AllPairs (λ c d. c.number < d.number) commands
