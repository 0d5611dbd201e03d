use Rattle.std.proofs.Common.{◌≡◌, ℕ, ◌+◌, ◌<◌, true, get_or}
use Rattle.state_numbers.specs.declared.placed.Placed.{Placed}
use Rattle.state_numbers.specs.Placed.{placed_before}
use Rattle.state_numbers.proofs.placed.are_rising.Given as goal

abbrev pub invariant-loop-place : goal.invariant-loop-place
invariant-loop-place l = (k : ℕ) (d : Placed) → k + 1 < l.place → placed_before (get_or l.list k d) (get_or l.list (k + 1) d) ≡ true
