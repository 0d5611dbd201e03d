use Rattle.std.proofs.Common.{arith}
use Rattle.std.proofs.lemmas.Int.{ints}
use Rattle.plan_cert.proofs.TotalLemmas.{IsTotal-more}
use Rattle.plan_cert.proofs.weights.starts_value.Goals as goal

pub loop-s-preserved : goal.loop-s-preserved
loop-s-preserved c =
    IsTotal-more _ c.loop-s.s _ c.start_term-total.result _ c.loop-s.invariant c.start_term-total.ensures.range c.start_term-total.ensures.value
    (omega (arith, ints, c.loop-s.invariant, c.start_term-total.ensures.range, c.loop-s-test.true))
