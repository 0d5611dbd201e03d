use Rattle.std.proofs.Common.{ℕ, ◌<◌, get_or}
use Rattle.timing_graph.specs.declared.graphs.Arc.{Arc}
use Rattle.timing_graph.proofs.tests.assert_within.Given as goal

abbrev pub invariant-loop-arc : goal.invariant-loop-arc
invariant-loop-arc g l = (k : ℕ) (d : Arc) → k < l.arc-index → ((get_or l.arcs k d).from.0 < l.pins) × ((get_or l.arcs k d).to.0 < l.pins)
