use Rattle.std.proofs.Common.{◌≡◌, ◌<◌, ℕ, length}
use Rattle.net_delays.specs.Alongs.{sum_of}
use Rattle.net_delays.specs.Rests.{step_of, wire_at}
use Rattle.net_delays.proofs.rests.put_steps.Given as goal

abbrev pub invariant-loop-place : goal.invariant-loop-place
invariant-loop-place l = (length l.delays ≡ length l.wires) × ((k : ℕ) → k < l.place → sum_of l.delays k ≡ step_of (sum_of l.sums) (wire_at l.wires k))
