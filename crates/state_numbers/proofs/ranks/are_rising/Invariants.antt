use Rattle.std.proofs.Common.{◌≡◌, ℕ, ◌+◌, ◌<◌, true, get_or}
use Rattle.state_numbers.specs.declared.ranks.KindKey.{KindKey}
use Rattle.state_numbers.specs.Ranks.{key_before}
use Rattle.state_numbers.proofs.ranks.are_rising.Given as goal

abbrev pub invariant-loop-place : goal.invariant-loop-place
invariant-loop-place l = (k : ℕ) (d : KindKey) → k + 1 < l.place → key_before l.classes (get_or l.keys k d) (get_or l.keys (k + 1) d) ≡ true
