use Rattle.std.proofs.Common.{◌≡◌, ◌++◌, map, drop}
use Rattle.timing_graph.specs.Gathering.{arcs_of_pairs}
use Rattle.timing_graph.specs.GraphViews.{arc_of}
use Rattle.timing_graph.proofs.gathering.put_pairs.Given as goal

abbrev pub invariant-loop-pair : goal.invariant-loop-pair
invariant-loop-pair l =
    map arc_of l.initial.arcs.items ++ arcs_of_pairs l.pins l.pairs ≡ map arc_of l.arcs.items ++ arcs_of_pairs l.pins (drop l.pair-index l.pairs)
