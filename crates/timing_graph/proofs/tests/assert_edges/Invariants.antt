use Rattle.std.proofs.Common.{ℕ, ◌<◌, get_or}
use Rattle.bud_design.specs.declared.timings.LaunchEdge.{LaunchEdge}
use Rattle.timing_graph.proofs.tests.assert_edges.Given as goal

abbrev pub invariant-loop-edge : goal.invariant-loop-edge
invariant-loop-edge g l = (k : ℕ) (d : LaunchEdge) → k < l.edge-index → (get_or l.edges k d).pin.0 < l.pins
