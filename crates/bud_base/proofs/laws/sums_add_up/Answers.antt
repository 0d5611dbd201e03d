use Rattle.bud_base.proofs.Sums.{sum_along-append}
use Rattle.bud_base.proofs.laws.sums_add_up.Goals as goal

pub returns : goal.returns
returns c = sum_along-append
