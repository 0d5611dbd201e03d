use Rattle.std.proofs.Common.{ap}
use Rattle.std.specs.List.{flat_map}
use Rattle.module_nets.specs.Nets.{all_bits}
use Rattle.net_drivers.specs.Drivers.{assign_drives, drives}
use Rattle.net_drivers.specs.Numbering.{Holds}
use Rattle.net_drivers.proofs.FillLaws.{IsFilled-same}
use Rattle.net_drivers.proofs.WholeLaws.{AreDrivers-pins}
use Rattle.net_drivers.proofs.WiringLaws.{Holds-judged, below-held}
use Rattle.net_drivers.proofs.wirings.wire.Goals as goal
use Rattle.net_drivers.proofs.wirings.wire.Goals.{In_ok-drive_assigns}

holds : (c : In_ok-drive_assigns) → Holds (all_bits c.args.joints.now.table.now.module.now) (drives c.args.joints.now.library.now.modules.now c.args.joints.now.table.now.module.now) c.drive_assigns.new.slots
holds c =
    Holds-judged c.args.joints.now.table.now.apart c.requires.slots c.requires.free c.in_ok-bit.ensures
    (IsFilled-same (ap (flat_map (assign_drives c.args.joints.now.table.now.module.now)) c.as_slice-assigns.ensures) c.in_ok-drive_assigns.ensures)

pub driving_pins-requires-clause-below : goal.driving_pins-requires-clause-below
driving_pins-requires-clause-below c = below-held (holds (goal.at.driving_pins-requires-clause-below c).In_ok-drive_assigns)

pub wires_of-requires-clause-pins : goal.wires_of-requires-clause-pins
wires_of-requires-clause-pins c =
    let m = c.args.joints.now.table.now.module.now in
    rw c.as_slice.ensures.value
    (AreDrivers-pins 4194304 (all_bits m) (drives c.args.joints.now.library.now.modules.now m) c.drive_assigns.new.slots c.in_ok-pins.pins.items (holds (goal.at.wires_of-requires-clause-pins c).In_ok-drive_assigns) c.in_ok-pins.ensures)
