use Rattle.std.proofs.Common.{◌≡◌, ◌≤◌, length, drop}
use Rattle.registers.specs.Marks.{AreCheckEdges}
use Rattle.registers.proofs.marks.put_check_edges.Given as goal

abbrev pub invariant-loop-low : goal.invariant-loop-low
invariant-loop-low l = (l.low ≤ length l.setups) × (length l.sets ≡ length l.fn.sets) × AreCheckEdges (drop l.low l.setups) l.sets

abbrev pub decreases-loop-low : goal.decreases-loop-low
decreases-loop-low l = l.low
