use Rattle.std.proofs.Common.{ℕ, ◌<◌, get_or}
use Rattle.bud_design.specs.declared.designs.Wire.{Wire}
use Rattle.timing_graph.proofs.tests.assert_wires.Given as goal

abbrev pub invariant-loop-wire : goal.invariant-loop-wire
invariant-loop-wire g l = (k : ℕ) (d : Wire) → k < l.wire-index → (get_or l.wires k d).to.0 < l.pins
