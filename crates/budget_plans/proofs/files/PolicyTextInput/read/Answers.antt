use Rattle.budget_plans.proofs.PolicyFiles.{lines_sound}
use Rattle.budget_plans.proofs.files.PolicyTextInput.read.Goals as goal

pub returns-clause-value : goal.returns-clause-value
returns-clause-value c = lines_sound c.read_policy.result c.read_policy.ensures.ranges
