use Rattle.std.proofs.Common.{arith}
use Rattle.std.proofs.lemmas.Int.{ints}
use Rattle.plan_cert.proofs.TotalLemmas.{IsTotal-more}
use Rattle.plan_cert.proofs.weights.ends_value.Goals as goal

pub loop-e-preserved : goal.loop-e-preserved
loop-e-preserved c =
    IsTotal-more _ c.loop-e.e _ c.end_term-total.result _ c.loop-e.invariant c.end_term-total.ensures.range c.end_term-total.ensures.value
    (omega (arith, ints, c.loop-e.invariant, c.end_term-total.ensures.range, c.loop-e-test.true))
