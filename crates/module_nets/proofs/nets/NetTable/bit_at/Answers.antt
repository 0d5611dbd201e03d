use Rattle.std.proofs.Common.{arith}
use Rattle.module_nets.proofs.BitLaws.{bits_counted, bit_found, bit_missed}
use Rattle.module_nets.proofs.nets.NetTable.bit_at.Goals as goal

pub returns-then-number-before : goal.returns-then-number-before
returns-then-number-before c =
    bit_found c.args.self.now.«module».now c.as_slice-name-items.result.now c.args.self.now.names.items c.loop-name.name-index c.loop-name.before c.range_width-width.result c.args.number _ c.range_of-range.result
    c.bit_in.result c.args.self.now.apart c.as_slice-name-items.ensures.value c.args.self.now.named c.loop-name-test.true c.range_of-range.ensures c.range_width-width.ensures c.loop-name.invariant.counted
    c.loop-name.invariant.below c.if-number-before.true c.bit_in.ensures

pub loop-name-preserved : goal.loop-name-preserved
loop-name-preserved c = record {
  counted = bits_counted c.args.self.now.«module».now c.as_slice-name-items.result.now c.args.self.now.names.items c.loop-name.name-index c.loop-name.before c.range_width-width.result _ c.range_of-range.result
      c.args.self.now.apart c.as_slice-name-items.ensures.value c.args.self.now.named c.loop-name-test.true c.range_of-range.ensures c.range_width-width.ensures c.loop-name.invariant.counted;
  below = omega (arith, c.loop-name.invariant.below, c.if-number-before.false);
}

pub returns : goal.returns
returns c =
    bit_missed c.args.self.now.«module».now c.as_slice-name-items.result.now c.args.self.now.names.items c.loop-name.name-index c.loop-name.before c.args.number c.args.self.now.apart
    c.as_slice-name-items.ensures.value c.args.self.now.named c.loop-name-test.false c.loop-name.invariant.counted c.loop-name.invariant.below c.requires
