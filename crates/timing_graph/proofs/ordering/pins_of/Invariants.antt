use Rattle.std.proofs.Common.{◌≡◌, ◌++◌, map, drop}
use Rattle.timing_graph.specs.Orderings.{pin_of}
use Rattle.timing_graph.proofs.ordering.pins_of.Given as goal

abbrev pub invariant-loop-node : goal.invariant-loop-node
invariant-loop-node l = map pin_of l.nodes ≡ l.pins.items ++ map pin_of (drop l.node-index l.nodes)
