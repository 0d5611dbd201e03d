use Rattle.std.proofs.Common.{◌≡◌, slice_index, ℕ, ◌<◌}
use Rattle.net_drivers.proofs.chains.rests.Given as goal

abbrev pub invariant-loop-bit : goal.invariant-loop-bit
invariant-loop-bit l = (b : ℕ) → b < l.bit-index → slice_index l.far (slice_index l.far b) ≡ slice_index l.far b
