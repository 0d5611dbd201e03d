use Rattle.bud_base.proofs.Sums.{sum_along-le_arrivals}
use Rattle.bud_base.proofs.laws.arrivals_bound_sums.Goals as goal

pub returns : goal.returns
returns c = sum_along-le_arrivals
