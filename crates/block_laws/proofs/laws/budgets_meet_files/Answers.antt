use Rattle.block_laws.proofs.Promises.{budgets-meet}
use Rattle.block_laws.proofs.laws.budgets_meet_files.Goals as goal

pub returns : goal.returns
returns c = budgets-meet
