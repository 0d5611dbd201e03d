use Rattle.std.proofs.Common.{◌≡◌, length, slice_index, ℕ, ◌<◌}
use Rattle.net_drivers.proofs.chains.double.Given as goal

abbrev pub invariant-loop-halfway : goal.invariant-loop-halfway
invariant-loop-halfway l = (length l.twice.items ≡ l.halfway-index) × ((b : ℕ) → b < l.halfway-index → slice_index l.twice.items b ≡ slice_index l.far (slice_index l.far b))
