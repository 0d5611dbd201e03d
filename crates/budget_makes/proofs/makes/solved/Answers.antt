use Rattle.budget_plans.proofs.Measures.{meets_of}
use Rattle.budget_makes.proofs.Mades.{solved_by}
use Rattle.budget_makes.proofs.makes.solved.Goals as goal

pub best_plan-requires-clause-meets : goal.best_plan-requires-clause-meets
best_plan-requires-clause-meets c = meets_of c.args.layout.now c.requires.laid c.args.slack c.requires.met

pub returns : goal.returns
returns c = solved_by c.args.layout.now c.requires.laid c.best_plan.result c.best_plan.ensures.holds
