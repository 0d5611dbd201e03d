-- What `make` answers: how large the design is and the first lines of the summary of its best budgets, or a worst violated path.
use Rattle.std.specs.Prelude.{◌≡◌, ℕ, ℤ, List, [], ◌∷◌, ◌++◌, codes, decimal, Option, Ok, Err}
use Rattle.bud_plans.specs.Plans.{IsHolding}
use Rattle.bud_plans.specs.declared.plans.Plan.{Plan}
use Rattle.budget_report.specs.Lines.{line}
use Rattle.budget_report.specs.declared.statuses.Status.{Status}
use Rattle.budget_report.specs.declared.statuses.Status.TheVariants.{Done, Violated}
use Rattle.budget_steps.specs.declared.outcomes.Answer.{Answer}
use Rattle.budget_steps.specs.Steps.{Course}
use Rattle.budget_designs.specs.Slacks.{IsMeasured}
use Rattle.budget_plans.specs.Layouts.{Laid, view_in}
use Rattle.budget_plans.specs.Plans.{IsMetSlack}
use Rattle.layer_laws.specs.DesignBudgets.{AreBestOfDesign}
use Rattle.plan_report.specs.Summaries.{head_text}

abbrev pub size_line : List ℕ → ℕ → List ℕ
size_line word n = line (word ∷ decimal n ∷ [])

-- how many gates and registers there are
abbrev pub size_text : ℕ → ℕ → List ℕ
size_text gates registers = size_line (codes "gates") gates ++ size_line (codes "registers") registers

-- and the summary up to the weight of the budgets
abbrev pub made_text : ℕ → ℕ → Option ℤ → Laid → Plan → List ℕ
made_text gates registers slack l plan = size_text gates registers ++ head_text slack l.layered plan.weight

-- the plan's budgets suit all constrained paths of the design, none that do weigh more, and the plan holds
pub record IsBestPlan (l : Laid) (plan : Plan) : Type 0 where
  pub best : AreBestOfDesign (view_in l) l.layered plan.budgets
  pub holds : IsHolding l.layered.problem plan

-- no constrained path is violated, and the lines speak of a best plan
pub record IsMade (l : Laid) (gates registers : ℕ) (text : List ℕ) : Type 0 where
  pub slack : Option ℤ
  pub met : IsMetSlack (view_in l) slack
  pub plan : Plan
  pub best : IsBestPlan l plan
  pub text_is : text ≡ made_text gates registers slack l plan

-- where a constrained path is violated, a worst one is printed as `least` prints it, and nothing before it
abbrev pub IsMakeAnswer : Laid → ℕ → ℕ → Status → List ℕ → Type 0
IsMakeAnswer l gates registers Done text = IsMade l gates registers text
IsMakeAnswer l gates registers Violated text = IsMeasured (view_in l) Violated text
IsMakeAnswer l gates registers other text = ⊥

-- it writes no file
abbrev pub made : Laid → ℕ → ℕ → Course Answer
made l gates registers (Ok answer) = IsMakeAnswer l gates registers answer.said.status answer.said.text × (answer.writes ≡ [])
made l gates registers (Err r) = ⊥
