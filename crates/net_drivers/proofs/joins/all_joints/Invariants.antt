use Rattle.net_drivers.specs.Joins.{AreJoined}
use Rattle.net_drivers.proofs.joins.all_joints.Given as goal

abbrev pub invariant-loop-k : goal.invariant-loop-k
invariant-loop-k l = AreJoined l.library.modules.now l.table.module.now l.instances l.k l.each.items
