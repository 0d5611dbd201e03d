use Rattle.std.proofs.Common.{◌*◌}
use Rattle.residual.specs.Leaving.{AreListed}
use Rattle.residual.proofs.adjacency.lists_of.Given as goal

abbrev pub invariant-loop-arc : goal.invariant-loop-arc
invariant-loop-arc l = AreListed l.arcs l.lists l.nodes (2 * l.arc)
