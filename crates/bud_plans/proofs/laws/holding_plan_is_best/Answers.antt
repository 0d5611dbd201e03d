use Rattle.bud_plans.proofs.Duality.{AreBest-from_plan}
use Rattle.bud_plans.proofs.laws.holding_plan_is_best.Goals as goal

pub returns : goal.returns
returns c = AreBest-from_plan
