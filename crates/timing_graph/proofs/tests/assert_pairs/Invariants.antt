use Rattle.std.proofs.Common.{ℕ, ◌<◌, get_or}
use Rattle.bud_design.specs.declared.timings.Pair.{Pair}
use Rattle.timing_graph.proofs.tests.assert_pairs.Given as goal

abbrev pub invariant-loop-pair : goal.invariant-loop-pair
invariant-loop-pair g l = (k : ℕ) (d : Pair) → k < l.pair-index → (get_or l.pairs k d).from.0 < l.pins
