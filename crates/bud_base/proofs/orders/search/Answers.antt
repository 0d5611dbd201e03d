use Rattle.bud_base.proofs.Rings.{HasCycle-from_turned}
use Rattle.bud_base.proofs.orders.search.Goals as goal

pub returns : goal.returns
returns c = HasCycle-from_turned _ _ _ _ _ c.in_ok-ring.ensures c.turn.ensures
