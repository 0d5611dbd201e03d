use Rattle.bud_base.proofs.OrderLemmas.{Joins-back, IsCycle-none}
use Rattle.bud_base.proofs.laws.orders_exclude_cycles.Goals as goal

pub returns-clause-back : goal.returns-clause-back
returns-clause-back c = Joins-back

pub returns-clause-cycle : goal.returns-clause-cycle
returns-clause-cycle c = IsCycle-none
