use Rattle.std.proofs.Common.{ℕ, ◌<◌, ◌≤ℤ◌}
use Rattle.bud_base.specs.Paths.{start_at}
use Rattle.bud_flow.specs.Sums.{number_at}
use Rattle.extreme_times.proofs.checks.suit_starts.Given as goal

abbrev pub invariant-loop-start : goal.invariant-loop-start
invariant-loop-start l = (s : ℕ) → s < l.start-index → (start_at l.starts s).offset ≤ℤ number_at l.times (start_at l.starts s).node.0
