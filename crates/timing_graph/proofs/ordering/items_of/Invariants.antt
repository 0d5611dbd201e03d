use Rattle.std.proofs.Common.{◌≡◌, ◌++◌, map, drop}
use Rattle.timing_graph.specs.Orderings.{item_of}
use Rattle.timing_graph.proofs.ordering.items_of.Given as goal

abbrev pub invariant-loop-arc : goal.invariant-loop-arc
invariant-loop-arc l = map item_of l.arcs ≡ l.items.items ++ map item_of (drop l.arc-index l.arcs)
