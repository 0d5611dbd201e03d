use Rattle.std.proofs.Common.{◌-◌, ◌+◌, ap, sym, ◌∙◌, arith}
use Rattle.net_drivers.specs.Slots.{filled, counted, constant_bits}
use Rattle.net_drivers.proofs.SlotSteps.{filled-constant, counted-constant}
use Rattle.net_drivers.proofs.slots.drive_constant.Goals as goal

pub loop-bit-preserved : goal.loop-bit-preserved
loop-bit-preserved c =
    let rest = constant_bits (c.loop-bit.bit + 1) (c.args.end - (c.loop-bit.bit + 1)) in
    record {
      size = omega arith;
      rows_size = omega arith;
      slots = ap (filled rest) c.drive.ensures.slots ∙ (sym (filled-constant _ _ _ c.loop-bit-test.true) ∙ c.loop-bit.invariant.slots);
      rows = ap (counted rest) c.drive.ensures.rows ∙ (sym (counted-constant _ _ _ c.loop-bit-test.true) ∙ c.loop-bit.invariant.rows);
    }
