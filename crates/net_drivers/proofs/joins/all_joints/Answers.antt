use Rattle.std.proofs.Common.{◌≡◌, ◌<◌, length, take, ap, sym, subst, ◌∙◌, arith}
use Rattle.module_nets.specs.Nets.{module_called}
use Rattle.net_drivers.specs.Joins.{AreJoined, IsJoined}
use Rattle.net_drivers.proofs.JoinLaws.{AreJoined-more}
use Rattle.net_drivers.proofs.joins.all_joints.Goals as goal

pub loop-k-preserved : goal.loop-k-preserved
loop-k-preserved c =
    let m = c.args.table.now.module.now in
    let modules = c.args.library.now.modules.now in
    let i = c.index-instances-k.result in
    AreJoined-more modules m c.args.instances.now c.loop-k.k i c.loop-k.each.items c.push.new.self.items c.from_vec.result
    c.loop-k-test.true c.index-instances-k.is c.loop-k.invariant
    (subst (IsJoined m i (module_called modules i.«module»)) (sym c.from_vec.ensures) c.in_ok-pairs.ensures) c.in_ok-push.ensures.items
