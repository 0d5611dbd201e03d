use Rattle.std.proofs.Common.{◌≡◌, length}
use Rattle.state_numbers.specs.Ranks.{AreRanks}
use Rattle.state_numbers.proofs.ranks.places.Given as goal

abbrev pub invariant-loop-rank : goal.invariant-loop-rank
invariant-loop-rank l = (length l.ranks.items ≡ l.kinds) × AreRanks l.keys l.rank l.ranks.items
