use Rattle.path_requirements.proofs.StepCounts.{AreSteps-steps}
use Rattle.path_requirements.proofs.laws.steps_are_greatest.Goals as goal

pub returns : goal.returns
returns c = AreSteps-steps
