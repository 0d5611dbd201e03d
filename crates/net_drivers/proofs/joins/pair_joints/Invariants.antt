use Rattle.std.proofs.Common.{◌≡◌, ◌++◌, drop}
use Rattle.net_drivers.specs.Joints.{joints}
use Rattle.net_drivers.proofs.joins.pair_joints.Given as goal

abbrev pub invariant-loop-k : goal.invariant-loop-k
invariant-loop-k l = l.pairs.items ++ joints (drop l.k l.dirs) (drop l.k l.numbers) ≡ joints l.dirs l.numbers
