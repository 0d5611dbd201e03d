use Rattle.std.proofs.Common.{ℕ, ◌<◌, ◌≤ℤ◌}
use Rattle.bud_base.specs.Paths.{end_at}
use Rattle.bud_flow.specs.Sums.{number_at}
use Rattle.extreme_times.proofs.checks.suit_ends.Given as goal

abbrev pub invariant-loop-end : goal.invariant-loop-end
invariant-loop-end l = (e : ℕ) → e < l.end-index → number_at l.times (end_at l.ends e).node.0 ≤ℤ (end_at l.ends e).require
