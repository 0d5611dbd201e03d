use Rattle.std.proofs.Common.{◌≡◌, ◌+◌, ◌<◌, ◌≤◌, length, ap, sym, subst, ◌∙◌, arith}
use Rattle.std.specs.List.{flat_map}
use Rattle.module_nets.specs.Nets.{all_bits}
use Rattle.net_drivers.specs.Drivers.{assign_drives, instance_drives}
use Rattle.net_drivers.specs.Joints.{directions, own_joints}
use Rattle.net_drivers.specs.Slots.{BitsWithin, filled, counted, constant_puts, widths}
use Rattle.net_drivers.proofs.FillLaws.{Counts-same}
use Rattle.net_drivers.proofs.PhaseLaws.{IsDriven-both, IsDriven-same, own-within, length-own_joints}
use Rattle.net_drivers.proofs.WholeLaws.{bits_fit, IsDriven-inputs, IsDriven-constants}
use Rattle.net_drivers.proofs.wirings.drive_all.Goals as goal

pub drive_pins-requires : goal.drive_pins-requires
drive_pins-requires c =
    let m = c.args.joints.now.table.now.module.now in
    let fits = bits_fit m c.args.joints.now.table.now.apart in
    let size = ap length c.requires.own ∙ length-own_joints 0 (directions m.ports) in
    record {
      bits = subst (BitsWithin (length c.args.slots.now)) (sym c.requires.own) (own-within (length c.args.slots.now) 0 (directions m.ports) (omega (arith, fits, c.requires.slots)));
      rows = omega arith;
      small = omega (arith, c.requires.slots, c.requires.clean.small);
      joints = omega (arith, size, fits, c.requires.clean.small);
    }

pub drive_constants-requires : goal.drive_constants-requires
drive_constants-requires c =
    let m = c.args.joints.now.table.now.module.now in
    let fits = bits_fit m c.args.joints.now.table.now.apart in
    let size = ap length c.requires.own ∙ length-own_joints 0 (directions m.ports) in
    let nets = ap widths c.as_slice-nets.ensures in
    record {
      bits = omega (arith, size, fits, nets, c.requires.slots);
      rows = omega arith;
      small = omega (arith, c.requires.slots, c.requires.clean.small);
    }

pub drive_instances-requires : goal.drive_instances-requires
drive_instances-requires c = record {
  joined = c.requires.joined;
  slots = omega (arith, c.requires.slots);
  room = omega (arith, c.requires.slots, c.requires.clean.small);
  rows = omega (arith, c.requires.rows);
  instances = c.requires.clean.instances;
  children = c.requires.clean.children;
}

pub cover_assigns-requires : goal.cover_assigns-requires
cover_assigns-requires c = record {
  small = omega (arith, c.args.joints.now.table.now.all, c.requires.clean.small);
  fine = rw c.as_slice-assigns.ensures c.requires.clean.assigns;
  rows = omega (arith, c.requires.rows, c.requires.slots);
}

pub returns : goal.returns
returns c =
    let m = c.args.joints.now.table.now.module.now in
    let apart = c.args.joints.now.table.now.apart in
    let modules = c.args.joints.now.library.now.modules.now in
    let size = ap length c.requires.own ∙ length-own_joints 0 (directions m.ports) in
    record {
      middle = c.drive_instances.new.rows;
      driven = IsDriven-both (IsDriven-inputs m c.args.own.now apart c.requires.own c.drive_pins.ensures.slots c.drive_pins.ensures.rows)
          (IsDriven-both
          (IsDriven-constants m (length c.args.own.now) apart size
          (c.drive_constants.ensures.slots ∙ ap (λ ns. filled (constant_puts (length c.args.own.now) ns) c.drive_pins.new.slots) c.as_slice-nets.ensures)
          (c.drive_constants.ensures.rows ∙ ap (λ ns. counted (constant_puts (length c.args.own.now) ns) c.drive_pins.new.rows) c.as_slice-nets.ensures))
          c.drive_instances.ensures);
      assigns = Counts-same (ap (flat_map (assign_drives m)) c.as_slice-assigns.ensures) c.cover_assigns.ensures;
    }
