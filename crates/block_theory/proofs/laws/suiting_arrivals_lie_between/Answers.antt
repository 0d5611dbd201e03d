use Rattle.block_theory.proofs.Extremes.{LieBetween-suiting}
use Rattle.block_theory.proofs.laws.suiting_arrivals_lie_between.Goals as goal

pub returns : goal.returns
returns c = λ p budgets arrivals early late bounds suit. LieBetween-suiting p budgets arrivals bounds suit early late
