use Rattle.std.proofs.Common.{take}
use Rattle.std.specs.List.{flat_map}
use Rattle.module_nets.specs.Nets.{all_bits}
use Rattle.net_drivers.specs.Drivers.{assign_drives}
use Rattle.net_drivers.specs.Phases.{Counts}
use Rattle.net_drivers.proofs.drives.cover_assigns.Given as goal

abbrev pub invariant-loop-assign : goal.invariant-loop-assign
invariant-loop-assign l = Counts (all_bits l.table.module.now) (flat_map (assign_drives l.table.module.now) (take l.assign-index l.assigns)) l.initial.rows l.rows
