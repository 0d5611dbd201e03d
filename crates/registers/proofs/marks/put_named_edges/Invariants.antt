use Rattle.std.proofs.Common.{◌≡◌, ◌≤◌, length, drop}
use Rattle.registers.specs.Marks.{AreNamedEdges}
use Rattle.registers.proofs.marks.put_named_edges.Given as goal

abbrev pub invariant-loop-low : goal.invariant-loop-low
invariant-loop-low l = (l.low ≤ length l.throughs) × (length l.sets ≡ length l.fn.sets) × AreNamedEdges (drop l.low l.throughs) l.sets

abbrev pub decreases-loop-low : goal.decreases-loop-low
decreases-loop-low l = l.low
