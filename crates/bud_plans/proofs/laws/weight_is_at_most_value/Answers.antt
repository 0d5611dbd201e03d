use Rattle.bud_plans.proofs.Duality.{weight_of-value}
use Rattle.bud_plans.proofs.laws.weight_is_at_most_value.Goals as goal

pub returns : goal.returns
returns c = weight_of-value
