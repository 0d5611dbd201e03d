use Rattle.std.proofs.Common.{◌≤◌, length}
use Rattle.name_tables.specs.Chained.{key_at, AreChained}
use Rattle.name_tables.proofs.chains.Chains.of.Given as goal

abbrev pub invariant-loop-number : goal.invariant-loop-number
invariant-loop-number l = (l.number ≤ length l.keys) × (l.low ≤ l.number) × AreChained (key_at l.keys) l.number (length l.keys) l.chains

abbrev pub decreases-loop-number : goal.decreases-loop-number
decreases-loop-number l = l.number
