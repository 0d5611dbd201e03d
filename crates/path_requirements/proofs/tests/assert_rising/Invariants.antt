use Rattle.std.proofs.Common.{◌≡◌, ℕ, ◌<◌, nat_lt, true, get_or}
use Rattle.bud_design.specs.declared.clocks.Exception.{Exception}
use Rattle.path_requirements.proofs.tests.assert_rising.Given as goal

abbrev pub invariant-loop-exception : goal.invariant-loop-exception
invariant-loop-exception g l =
    ((k : ℕ) (d : Exception) → k < l.exception-index → (get_or l.exceptions k d).number < l.low)
    × ((j k : ℕ) (d : Exception) → j < k → k < l.exception-index → nat_lt (get_or l.exceptions j d).number (get_or l.exceptions k d).number ≡ true)
