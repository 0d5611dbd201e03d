use Rattle.std.proofs.Common.{◌<◌, length, take, ap, subst, sym, ◌∙◌, arith}
use Rattle.std.proofs.lemmas.List.{take_all}
use Rattle.module_nets.specs.Nets.{all_bits}
use Rattle.net_drivers.specs.Drivers.{instance_drives}
use Rattle.net_drivers.specs.Joins.{instance_at}
use Rattle.net_drivers.specs.Phases.{IsDriven}
use Rattle.net_drivers.proofs.JoinLaws.{instance-read}
use Rattle.net_drivers.proofs.PhaseLaws.{IsDriven-none, IsDriven-both, IsDriven-same, instances-next}
use Rattle.net_drivers.proofs.drives.drive_instances.Goals as goal

pub loop-number-preserved : goal.loop-number-preserved
loop-number-preserved c =
    let m = c.args.joints.now.table.now.module.now in
    let within : c.loop-number.number < length m.instances = omega (arith, c.loop-number-test.true, c.count-number-end.ensures) in
    IsDriven-same (instances-next c.args.joints.now.library.now.modules.now m m.instances c.loop-number.number (instance_at m.instances c.loop-number.number) within (instance-read m.instances c.loop-number.number within))
    (IsDriven-both c.loop-number.invariant c.drive_instance.ensures)
