use Rattle.bud_flow.proofs.Exchange.{gain_of-excess}
use Rattle.bud_flow.proofs.laws.exchange_of_sums.Goals as goal

pub returns : goal.returns
returns c = gain_of-excess
