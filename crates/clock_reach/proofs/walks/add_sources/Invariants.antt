use Rattle.std.proofs.Common.{◌≡◌, ◌++◌, drop, map}
use Rattle.clock_reach.specs.Walks.{front_of}
use Rattle.clock_reach.proofs.walks.add_sources.Given as goal

abbrev pub invariant-loop-pin : goal.invariant-loop-pin
invariant-loop-pin l = l.initial.queue.items ++ map (front_of l.clock) l.sources ≡ l.queue.items ++ map (front_of l.clock) (drop l.pin-index l.sources)
