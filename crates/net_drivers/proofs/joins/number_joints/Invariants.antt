use Rattle.std.proofs.Common.{◌≡◌, ◌++◌, drop}
use Rattle.net_drivers.specs.Joints.{own_joints}
use Rattle.net_drivers.proofs.joins.number_joints.Given as goal

abbrev pub invariant-loop-bit : goal.invariant-loop-bit
invariant-loop-bit l = l.own.items ++ own_joints l.bit (drop l.bit l.dirs) ≡ own_joints 0 l.dirs
