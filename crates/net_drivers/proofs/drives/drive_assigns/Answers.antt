use Rattle.net_drivers.specs.Drivers.{assign_drives}
use Rattle.net_drivers.proofs.FillLaws.{IsFilled-both, IsFilled-same, flat-next}
use Rattle.net_drivers.proofs.drives.drive_assigns.Goals as goal

pub loop-assign-preserved : goal.loop-assign-preserved
loop-assign-preserved c =
    IsFilled-same (flat-next (assign_drives c.args.table.now.module.now) c.args.assigns.now c.loop-assign.assign-index c.assign-item.result c.loop-assign-test.true c.assign-item.is)
    (IsFilled-both c.loop-assign.invariant c.in_ok-drive_assign.ensures)
