use Rattle.std.proofs.Common.{ℕ, ◌<◌}
use Rattle.extreme_times.specs.Causes.{HasEarlyCause}
use Rattle.extreme_times.proofs.causes.have_early_causes.Given as goal

abbrev pub invariant-loop-number : goal.invariant-loop-number
invariant-loop-number l = (n : ℕ) → n < l.number → HasEarlyCause l.problem l.times n
