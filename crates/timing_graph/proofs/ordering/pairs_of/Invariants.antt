use Rattle.std.proofs.Common.{◌≡◌, ◌++◌, map, drop}
use Rattle.timing_graph.specs.Orderings.{pair_of}
use Rattle.timing_graph.proofs.ordering.pairs_of.Given as goal

abbrev pub invariant-loop-number : goal.invariant-loop-number
invariant-loop-number l = map (pair_of l.items) l.ring ≡ l.pairs.items ++ map (pair_of l.items) (drop l.number-index l.ring)
