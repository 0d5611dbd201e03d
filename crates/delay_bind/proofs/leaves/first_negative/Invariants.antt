use Rattle.std.proofs.Common.{◌≡◌, drop}
use Rattle.delay_bind.specs.Bindings.{negative_pair}
use Rattle.delay_bind.proofs.leaves.first_negative.Given as goal

abbrev pub invariant-loop-pair : goal.invariant-loop-pair
invariant-loop-pair l = negative_pair l.pairs ≡ negative_pair (drop l.pair-index l.pairs)
