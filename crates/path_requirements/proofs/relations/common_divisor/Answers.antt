use Rattle.std.proofs.Common.{arith, ◌∙◌}
use Rattle.std.proofs.lemmas.Nat.{mod_below}
use Rattle.path_requirements.proofs.Divisors.{common_divisor-step}
use Rattle.path_requirements.proofs.relations.common_divisor.Goals as goal

pub loop-rest-preserved : goal.loop-rest-preserved
loop-rest-preserved c =
    let below = mod_below c.loop-rest.divisor c.loop-rest.rest (omega arith) in
    (c.loop-rest.invariant.0 ∙ common_divisor-step c.loop-rest.divisor c.loop-rest.rest (omega arith), omega arith, omega arith, omega (arith, below))
