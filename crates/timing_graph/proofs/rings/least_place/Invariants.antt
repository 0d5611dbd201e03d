use Rattle.std.proofs.Common.{ℕ, ◌<◌, ◌≤◌, length, get_or}
use Rattle.timing_graph.proofs.rings.least_place.Given as goal

abbrev pub invariant-loop-place : goal.invariant-loop-place
invariant-loop-place l =
    (l.least < length l.ring)
    × ((k : ℕ) → k < l.place → (get_or l.ring l.least (record { 0 = 0 })).0 ≤ (get_or l.ring k (record { 0 = 0 })).0)
