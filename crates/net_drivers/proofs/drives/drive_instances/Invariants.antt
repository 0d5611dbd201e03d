use Rattle.std.proofs.Common.{take}
use Rattle.module_nets.specs.Nets.{all_bits}
use Rattle.net_drivers.specs.Drivers.{instance_drives}
use Rattle.net_drivers.specs.Phases.{IsDriven}
use Rattle.net_drivers.proofs.drives.drive_instances.Given as goal

abbrev pub invariant-loop-number : goal.invariant-loop-number
invariant-loop-number l = IsDriven (all_bits l.joints.table.now.module.now) (instance_drives l.joints.library.now.modules.now l.joints.table.now.module.now 0 (take l.number l.joints.table.now.module.now.instances)) l.initial.slots l.slots l.initial.rows l.rows
