use Rattle.std.proofs.Common.{◌≤◌, length, drop}
use Rattle.design_layers.specs.GroupMarks.{AreMarked}
use Rattle.design_layers.proofs.group_marks.group_marks.Given as goal

abbrev pub invariant-loop-place : goal.invariant-loop-place
invariant-loop-place l = (l.place ≤ length l.exceptions) × AreMarked (drop l.place l.exceptions) l.marks.entries

abbrev pub decreases-loop-place : goal.decreases-loop-place
decreases-loop-place l = l.place
