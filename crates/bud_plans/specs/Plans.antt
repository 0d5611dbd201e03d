-- Plans that hold, and flows that prove budgets.
use Rattle.std.specs.Prelude.{◌≡◌, ℤ, pos, negsuc, ◌≤ℤ◌, List, length, All}
use Rattle.bud_base.specs.declared.problems.Problem.{Problem}
use Rattle.bud_flow.specs.Flows.{Flow, IsBalanced, value_of}
use Rattle.bud_plans.specs.Budgets.{AreWithinBounds, SuitBudgets, weight_of}
use Rattle.bud_plans.specs.declared.plans.Plan.{Plan}

-- the flow is balanced, and its value is what the budgets weigh
pub record ProvesBudgets (p : Problem) (budgets : List ℤ) (flow : Flow) : Type 0 where
  pub balanced : IsBalanced p flow
  pub value : value_of p flow ≡ weight_of p budgets

-- what the plan's items, starts and ends carry
abbrev pub flow_of : Plan → Flow
flow_of plan = record { items = plan.flow; starts = plan.start_flow; ends = plan.end_flow }

-- the budgets are within bounds, the arrivals suit them, the flow is balanced, and the budgets' weight, the flow's value and the plan's weight are equal
pub record IsHolding (p : Problem) (plan : Plan) : Type 0 where
  pub bounds : AreWithinBounds p plan.budgets
  pub arrivals : SuitBudgets p plan.budgets plan.arrivals
  pub balanced : IsBalanced p (flow_of plan)
  pub weight : weight_of p plan.budgets ≡ plan.weight
  pub value : value_of p (flow_of plan) ≡ plan.weight

-- the plan has one budget and flow for each item, one arrival for each node, and one flow for each start and end
pub record IsPlanOf (p : Problem) (plan : Plan) : Type 0 where
  pub budgets : length plan.budgets ≡ length p.items
  pub arrivals : length plan.arrivals ≡ p.nodes
  pub flow : length plan.flow ≡ length p.items
  pub start_flow : length plan.start_flow ≡ length p.starts
  pub end_flow : length plan.end_flow ≡ length p.ends

-- a budget, an arrival or a flow is within 2^44 either way
pub record IsPlanNumber (number : ℤ) : Type 0 where
  pub low : negsuc 17592186044415 ≤ℤ number
  pub high : number ≤ℤ pos 17592186044416

-- a weight is within 2^100 either way
pub record IsPlanWeight (weight : ℤ) : Type 0 where
  pub low : negsuc 1267650600228229401496703205375 ≤ℤ weight
  pub high : weight ≤ℤ pos 1267650600228229401496703205376

-- the numbers of the plan are within the ranges that a certificate can write
pub record HasPlanNumbers (plan : Plan) : Type 0 where
  pub budgets : All IsPlanNumber plan.budgets
  pub arrivals : All IsPlanNumber plan.arrivals
  pub flow : All IsPlanNumber plan.flow
  pub start_flow : All IsPlanNumber plan.start_flow
  pub end_flow : All IsPlanNumber plan.end_flow
  pub weight : IsPlanWeight plan.weight
