-- The answer to a state: budgets that are best over its constrained paths, or that there are none, or a worst violated path.
use Rattle.std.specs.Prelude.{◌≡◌, ℤ, pos, ◌≤ℤ◌, ◌<ℤ◌, List, []}
use Rattle.bud_base.specs.Paths.{Path}
use Rattle.bud_base.specs.declared.ids.ItemId.{ItemId}
use Rattle.bud_plans.specs.Plans.{IsHolding, IsPlanOf}
use Rattle.bud_plans.specs.declared.plans.Plan.{Plan}
use Rattle.bud_design.specs.declared.clocks.Constraints.{Constraints}
use Rattle.bud_design.specs.declared.layers.Layered.{Layered}
use Rattle.bud_design.specs.Correspondences.{StandsFor}
use Rattle.bud_design.specs.TimingPaths.{View, TimingPath, IsConstrained, HasSlack, IsLeastPathSlack}
use Rattle.layer_laws.specs.DesignBudgets.{AreBestOfDesign}
use Rattle.edit_states.specs.Answers.{IsLaidOut}
use Rattle.edit_states.specs.States.{State, view_of}
use Rattle.edit_states.specs.declared.answers.Answer.{Answer}
use Rattle.edit_states.specs.declared.answers.Answer.TheVariants.{Best, NoPaths, Violated}

-- the least slack is this, at least 0; the plan holds, and its budgets are best over all constrained paths
pub record IsBest (w : View) (layered : Layered) (slack : ℤ) (plan : Plan) : Type 0 where
  pub least : IsLeastPathSlack w slack
  pub met : pos 0 ≤ℤ slack
  pub plan_of : IsPlanOf layered.problem plan
  pub holds : IsHolding layered.problem plan
  pub best : AreBestOfDesign w layered plan.budgets

-- no path is constrained, and the plan is empty
pub record IsWithoutPaths (w : View) (plan : Plan) : Type 0 where
  pub none : (path : TimingPath) (room : ℤ) → IsConstrained w path room → ⊥
  pub budgets : plan.budgets ≡ []
  pub arrivals : plan.arrivals ≡ []
  pub flow : plan.flow ≡ []
  pub start_flow : plan.start_flow ≡ []
  pub end_flow : plan.end_flow ≡ []
  pub weight : plan.weight ≡ pos 0

-- the least slack is this, negative, and the items stand for a constrained path that has it
pub record IsViolated (w : View) (layered : Layered) (slack : ℤ) (items : List ItemId) : Type 0 where
  pub least : IsLeastPathSlack w slack
  pub negative : slack <ℤ pos 0
  pub path : TimingPath
  pub has_slack : HasSlack w path slack
  pub in_items : Path
  pub items_are : in_items.items ≡ items
  pub stands : StandsFor w layered in_items path

abbrev pub Answers : View → Layered → Answer → Type 0
Answers w layered (Best slack plan) = IsBest w layered slack plan
Answers w layered (NoPaths plan) = IsWithoutPaths w plan
Answers w layered (Violated slack items) = IsViolated w layered slack items

-- the answer to a state that is laid out so
pub record IsStateAnswer (s : State) (all : Constraints) (layered : Layered) (answer : Answer) : Type 0 where
  pub laid_out : IsLaidOut s all layered
  pub answers : Answers (view_of s all) layered answer
