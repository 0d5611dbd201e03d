use Rattle.std.proofs.Common.{◌≡◌, ◌++◌, drop}
use Rattle.clock_reach.specs.Walks.{fronts_from}
use Rattle.clock_reach.proofs.walks.sources_of.Given as goal

abbrev pub invariant-loop-number : goal.invariant-loop-number
invariant-loop-number l = fronts_from 0 l.clocks ≡ l.queue.items ++ fronts_from l.number (drop l.number l.clocks)
