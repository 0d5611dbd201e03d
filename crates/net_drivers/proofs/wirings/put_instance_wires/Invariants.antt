use Rattle.std.proofs.Common.{◌≡◌, ◌++◌, take}
use Rattle.std.specs.List.{filter_map}
use Rattle.net_drivers.specs.Drivers.{driver, drives, instance_loads}
use Rattle.net_drivers.specs.Wirings.{load_wire}
use Rattle.net_drivers.proofs.wirings.put_instance_wires.Given as goal

abbrev pub invariant-loop-number : goal.invariant-loop-number
invariant-loop-number l = l.wires.items ≡ l.initial.wires.items ++ filter_map (load_wire (driver 4194304 (drives l.joints.library.now.modules.now l.joints.table.now.module.now))) (instance_loads l.joints.library.now.modules.now l.joints.table.now.module.now 0 (take l.number l.joints.table.now.module.now.instances))
