use Rattle.std.proofs.Common.{length, ap, arith}
use Rattle.net_drivers.specs.Joints.{directions}
use Rattle.net_drivers.proofs.WholeLaws.{bits_fit}
use Rattle.net_drivers.proofs.wirings.wire_module.Goals as goal

pub own_joints-requires : goal.own_joints-requires
own_joints-requires c =
    let fits = bits_fit c.args.table.now.module.now c.args.table.now.apart in
    omega (arith, ap (λ ps. length (directions ps)) c.as_slice.ensures, fits, c.requires.clean.small)
