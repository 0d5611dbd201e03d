use Rattle.std.proofs.Common.{◌++◌, length, ap, sym, subst, ◌∙◌, arith}
use Rattle.module_nets.specs.Nets.{module_called}
use Rattle.net_drivers.specs.Drivers.{driver, drives}
use Rattle.net_drivers.specs.Joins.{instance_at}
use Rattle.net_drivers.specs.Slots.{BitsWithin}
use Rattle.net_drivers.proofs.PhaseLaws.{joined-within, joined-small}
use Rattle.net_drivers.proofs.WholeLaws.{child_wires}
use Rattle.net_drivers.proofs.wirings.put_child_wires.Goals as goal

pub put_wires-requires : goal.put_wires-requires
put_wires-requires c =
    let m = c.args.joints.now.table.now.module.now in
    let i = instance_at m.instances c.args.number in
    let child = module_called c.args.joints.now.library.now.modules.now i.«module» in
    record {
      bits = subst (λ n. BitsWithin n c.of-pairs.result.now) (sym c.requires.size) (joined-within m i child c.of-pairs.result.now c.of-pairs.ensures);
      small = joined-small m i child c.of-pairs.result.now c.requires.child c.of-pairs.ensures;
    }

pub returns : goal.returns
returns c =
    let m = c.args.joints.now.table.now.module.now in
    let i = instance_at m.instances c.args.number in
    let modules = c.args.joints.now.library.now.modules.now in
    let child = module_called modules i.«module» in
    c.in_ok-put_wires.ensures
    ∙ ap (λ ws. c.args.wires.now.items ++ ws) (sym (child_wires m c.args.number i child (driver 4194304 (drives modules m)) c.args.pins.now c.of-pairs.result.now c.requires.pins c.of-pairs.ensures))
