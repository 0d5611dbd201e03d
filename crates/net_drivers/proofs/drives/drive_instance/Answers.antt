use Rattle.std.proofs.Common.{length, sym, subst, arith}
use Rattle.module_nets.specs.Nets.{module_called}
use Rattle.net_drivers.specs.Joins.{instance_at}
use Rattle.net_drivers.specs.Slots.{BitsWithin}
use Rattle.net_drivers.proofs.PhaseLaws.{IsDriven-child, joined-within, joined-small}
use Rattle.net_drivers.proofs.drives.drive_instance.Goals as goal

pub drive_pins-requires : goal.drive_pins-requires
drive_pins-requires c =
    let m = c.args.joints.now.table.now.module.now in
    let i = instance_at m.instances c.args.number in
    let child = module_called c.args.joints.now.library.now.modules.now i.«module» in
    record {
      bits = subst (λ n. BitsWithin n c.of-pairs.result.now) (sym c.requires.slots) (joined-within m i child c.of-pairs.result.now c.of-pairs.ensures);
      rows = omega arith;
      small = omega arith;
      joints = joined-small m i child c.of-pairs.result.now c.requires.child c.of-pairs.ensures;
    }

pub returns : goal.returns
returns c =
    let m = c.args.joints.now.table.now.module.now in
    let i = instance_at m.instances c.args.number in
    let child = module_called c.args.joints.now.library.now.modules.now i.«module» in
    IsDriven-child m c.args.number i child c.of-pairs.result.now c.of-pairs.ensures
    c.drive_pins.ensures.slots c.drive_pins.ensures.rows
