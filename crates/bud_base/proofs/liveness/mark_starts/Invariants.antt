use Rattle.bud_base.specs.Markings.{Marks, HasStart}
use Rattle.bud_base.proofs.liveness.mark_starts.Given as goal

abbrev pub invariant-loop-start : goal.invariant-loop-start
invariant-loop-start l = Marks (HasStart l.starts l.start-index) l.initial.marks l.marks
