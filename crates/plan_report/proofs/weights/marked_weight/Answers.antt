use Rattle.std.proofs.Common.{arith}
use Rattle.std.proofs.lemmas.Int.{ints}
use Rattle.plan_cert.proofs.TotalLemmas.{IsTotal-more}
use Rattle.plan_report.proofs.weights.marked_weight.Goals as goal

pub loop-i-preserved : goal.loop-i-preserved
loop-i-preserved c =
    IsTotal-more _ c.loop-i.i _ c.marked_term-total.result _ c.loop-i.invariant c.marked_term-total.ensures.range c.marked_term-total.ensures.value
    (omega (arith, ints, c.loop-i.invariant, c.marked_term-total.ensures.range, c.loop-i-test.true))
