use Rattle.std.proofs.Common.{◌≡◌, ◌++◌, drop}
use Rattle.net_drivers.specs.Wires.{pin_wires}
use Rattle.net_drivers.proofs.wires.put_wires.Given as goal

abbrev pub invariant-loop-k : goal.invariant-loop-k
invariant-loop-k l = l.wires.items ++ pin_wires l.pins l.meant l.instance l.k (drop l.k l.joints) ≡ l.initial.wires.items ++ pin_wires l.pins l.meant l.instance 0 l.joints
