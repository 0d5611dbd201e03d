use Rattle.std.proofs.Common.{◌≡◌, ℤ, pos, ◌^◌, ◌<ℤ◌, ◌≤ℤ◌, true, false, to_z, of_z, arith}
use mir.Syntax.{w128}
use Rattle.std.specs.Prelude.{int_lt}
use Rattle.std.proofs.lemmas.Int.{ints}
use Rattle.residual.specs.Bounds.{IsWithin}
use Rattle.flow_solver.proofs.searches.has_excess.Goals as goal

-- what a test of an excess says
more : (result excess : ℤ) → result ≡ excess → IsWithin (pos (2 ^ 113)) result → int_lt (pos 0) (to_z w128 (of_z w128 result)) ≡ true → pos 0 <ℤ excess
more result excess is within test = let same : to_z w128 (of_z w128 result) ≡ result = omega (arith, ints, within.low, within.high) in grind (arith, ints)

no_more : (result excess : ℤ) → result ≡ excess → IsWithin (pos (2 ^ 113)) result → int_lt (pos 0) (to_z w128 (of_z w128 result)) ≡ false → excess ≤ℤ pos 0
no_more result excess is within test = let same : to_z w128 (of_z w128 result) ≡ result = omega (arith, ints, within.low, within.high) in grind (arith, ints)

pub returns-clause-yes : goal.returns-clause-yes
returns-clause-yes c = λ test. more _ _ c.excess.ensures.excess c.excess.ensures.small test

pub returns-clause-no : goal.returns-clause-no
returns-clause-no c = λ test. no_more _ _ c.excess.ensures.excess c.excess.ensures.small test
