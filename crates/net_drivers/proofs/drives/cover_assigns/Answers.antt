use Rattle.std.proofs.Common.{sym, subst, ap}
use Rattle.module_nets.specs.Nets.{all_bits, expression_bits}
use Rattle.net_drivers.specs.Drivers.{assign_drives}
use Rattle.net_drivers.specs.Phases.{IsFineAssign}
use Rattle.net_drivers.proofs.CountLaws.{Counts-both}
use Rattle.net_drivers.proofs.FillLaws.{Counts-none, Counts-same, Counts-assign, Stands-same, flat-next}
use Rattle.net_drivers.proofs.drives.cover_assigns.Goals as goal

pub loop-assign-init : goal.loop-assign-init
loop-assign-init c = Counts-none (all_bits c.args.table.now.module.now) c.args.rows.now c.requires.rows

pub loop-assign-preserved : goal.loop-assign-preserved
loop-assign-preserved c =
    let m = c.args.table.now.module.now in
    let a = c.assign-item.result in
    let fine = subst (IsFineAssign m) (sym c.assign-item.is) (c.requires.fine c.loop-assign.assign-index a c.loop-assign-test.true) in
    Counts-same (flat-next (assign_drives m) c.args.assigns.now c.loop-assign.assign-index a c.loop-assign-test.true c.assign-item.is)
    (Counts-both c.loop-assign.invariant (Counts-assign m a fine.paired (Stands-same (ap (expression_bits m) c.as_slice.ensures) c.cover_pieces.ensures)))
