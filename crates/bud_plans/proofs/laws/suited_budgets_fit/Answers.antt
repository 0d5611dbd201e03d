use Rattle.bud_plans.proofs.Duality.{Fit-from_arrivals}
use Rattle.bud_plans.proofs.laws.suited_budgets_fit.Goals as goal

pub returns : goal.returns
returns c = Fit-from_arrivals
