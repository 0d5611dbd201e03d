use Rattle.std.proofs.Common.{◌+◌, ap, ◌∙◌, arith}
use Rattle.net_drivers.proofs.SlotSteps.{widths-next, filled-nets, counted-nets}
use Rattle.net_drivers.proofs.slots.drive_constants.Goals as goal

pub drive_net-requires : goal.drive_net-requires
drive_net-requires c = record {
  bits = omega (arith, widths-next _ _ _ c.loop-net-test.true c.net-item.is);
  rows = omega arith;
  small = omega arith;
}

pub loop-net-preserved : goal.loop-net-preserved
loop-net-preserved c =
    let on = ap (λ w. c.loop-net.first + w) c.range_width-first.ensures in
    record {
      size = omega arith;
      rows_size = omega arith;
      fits = omega (arith, widths-next _ _ _ c.loop-net-test.true c.net-item.is);
      slots = filled-nets _ _ _ _ _ _ _ c.loop-net-test.true c.net-item.is on c.drive_net.ensures.slots ∙ c.loop-net.invariant.slots;
      rows = counted-nets _ _ _ _ _ _ _ c.loop-net-test.true c.net-item.is on c.drive_net.ensures.rows ∙ c.loop-net.invariant.rows;
    }
