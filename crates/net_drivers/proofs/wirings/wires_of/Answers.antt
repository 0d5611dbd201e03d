use Rattle.std.proofs.Common.{None, ◌++◌, length, ap, sym, subst, ◌∙◌, arith}
use Rattle.std.specs.List.{filter_map}
use Rattle.bud_syntax.specs.declared.modules.Dir.TheVariants.{Output}
use Rattle.module_nets.specs.Nets.{port_bits}
use Rattle.net_drivers.specs.Drivers.{driver, drives, own_loads, instance_loads}
use Rattle.net_drivers.specs.Joints.{directions}
use Rattle.net_drivers.specs.Slots.{BitsWithin}
use Rattle.net_drivers.specs.Wires.{pin_wires}
use Rattle.net_drivers.specs.Wirings.{load_wire}
use Rattle.net_drivers.proofs.PhaseLaws.{own-within, length-own_joints}
use Rattle.net_drivers.proofs.WholeLaws.{bits_fit, own_wires, local_wires-are}
use Rattle.net_drivers.proofs.wirings.wires_of.Goals as goal

pub put_wires-requires-clause-bits : goal.put_wires-requires-clause-bits
put_wires-requires-clause-bits c =
    let m = c.args.joints.now.table.now.module.now in
    let fits = bits_fit m c.args.joints.now.table.now.apart in
    subst (BitsWithin (length c.args.pins.now)) (sym c.requires.own) (own-within (length c.args.pins.now) 0 (directions m.ports) (omega (arith, fits, c.requires.size)))

pub put_wires-requires-clause-small : goal.put_wires-requires-clause-small
put_wires-requires-clause-small c =
    let m = c.args.joints.now.table.now.module.now in
    let fits = bits_fit m c.args.joints.now.table.now.apart in
    let size = ap length c.requires.own ∙ length-own_joints 0 (directions m.ports) in
    omega (arith, size, fits, c.requires.clean.small)

pub returns : goal.returns
returns c =
    let m = c.args.joints.now.table.now.module.now in
    let modules = c.args.joints.now.library.now.modules.now in
    let follow = driver 4194304 (drives modules m) in
    let others = filter_map (load_wire follow) (instance_loads modules m 0 m.instances) in
    c.in_ok-put_instance_wires.ensures
    ∙ (ap (λ ws. ws ++ others)
    (c.in_ok-put_wires.ensures
    ∙ (ap (λ ws. ws ++ pin_wires c.args.pins.now Output None 0 c.args.own.now) c.new-wires.ensures.items
    ∙ sym (own_wires m follow c.args.pins.now c.args.own.now c.args.joints.now.table.now.apart c.requires.pins c.requires.own)))
    ∙ local_wires-are 4194304 modules m)
