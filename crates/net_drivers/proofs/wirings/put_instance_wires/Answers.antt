use Rattle.std.proofs.Common.{◌<◌, length, arith, refl}
use Rattle.std.specs.List.{filter_map}
use Rattle.module_nets.specs.Nets.{module_called}
use Rattle.net_drivers.specs.Drivers.{driver, drives, child_loads}
use Rattle.net_drivers.specs.Joins.{instance_at}
use Rattle.net_drivers.specs.Wirings.{load_wire}
use Rattle.net_drivers.proofs.JoinLaws.{instance-read}
use Rattle.net_drivers.proofs.WholeLaws.{instance_wires-next}
use Rattle.net_drivers.proofs.wirings.put_instance_wires.Goals as goal

pub loop-number-preserved : goal.loop-number-preserved
loop-number-preserved c =
    let m = c.args.joints.now.table.now.module.now in
    let modules = c.args.joints.now.library.now.modules.now in
    let i = instance_at m.instances c.loop-number.number in
    let follow = driver 4194304 (drives modules m) in
    let within : c.loop-number.number < length m.instances = omega (arith, c.loop-number-test.true, c.count-number-end.ensures) in
    instance_wires-next modules m follow m.instances c.loop-number.number i c.args.wires.now.items c.loop-number.wires.items c.put_child_wires.new.wires.items
    (filter_map (load_wire follow) (child_loads m c.loop-number.number i (module_called modules i.«module»)))
    within (instance-read m.instances c.loop-number.number within) c.loop-number.invariant c.in_ok-put_child_wires.ensures refl
