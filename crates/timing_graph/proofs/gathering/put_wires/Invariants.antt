use Rattle.std.proofs.Common.{◌≡◌, ◌++◌, map, drop}
use Rattle.timing_graph.specs.Graphs.{wire_arcs}
use Rattle.timing_graph.specs.GraphViews.{arc_of}
use Rattle.timing_graph.proofs.gathering.put_wires.Given as goal

abbrev pub invariant-loop-place : goal.invariant-loop-place
invariant-loop-place l =
    map arc_of l.initial.arcs.items ++ wire_arcs l.timing l.wires l.timing.wires
    ≡ map arc_of l.arcs.items ++ wire_arcs l.timing (drop l.place l.wires) (drop l.place l.timing.wires)
