use Rattle.std.proofs.Common.{below_more}
use Rattle.net_drivers.proofs.CoverLemmas.{IsSwept-next, passing-once, passing-twice}
use Rattle.net_drivers.proofs.covers.first_twice.Goals as goal

pub loop-bit-preserved : goal.loop-bit-preserved
loop-bit-preserved c =
    let swept = IsSwept-next c.with_end.result c.with_end-furthest.result c.with_end.ensures c.with_end-furthest.ensures c.loop-bit.invariant.swept in
    record {
      swept = swept;
      none = below_more _ _ c.loop-bit.invariant.none (passing-once swept c.if-bit-furthest.false);
    }

pub returns-then-bit-furthest : goal.returns-then-bit-furthest
returns-then-bit-furthest c =
    let swept = IsSwept-next c.with_end.result c.with_end-furthest.result c.with_end.ensures c.with_end-furthest.ensures c.loop-bit.invariant.swept in
    (c.loop-bit-test.true, passing-twice swept c.if-bit-furthest.true, c.loop-bit.invariant.none)
