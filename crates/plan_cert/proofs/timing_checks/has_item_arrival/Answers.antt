use Rattle.std.proofs.Common.{arith}
use Rattle.std.proofs.lemmas.Int.{ints}
use Rattle.plan_cert.proofs.timing_checks.has_item_arrival.Goals as goal

pub returns : goal.returns
returns c =
    let before = rw c.as_slice.ensures at c.arrival_at-before.ensures.value in
    let after = rw c.as_slice.ensures at c.arrival_at-after.ensures.value in
    (λ yes. omega (arith, ints, c.is_over.ensures.0 yes), λ is. c.is_over.ensures.1 (omega (arith, ints, is)))
