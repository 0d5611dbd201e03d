use Rattle.bud_base.specs.Markings.{Marks, HasEnd}
use Rattle.live_states.proofs.leading.mark_ends.Given as goal

abbrev pub invariant-loop-end : goal.invariant-loop-end
invariant-loop-end l = Marks (HasEnd l.ends l.end-index) l.initial.marks l.marks
