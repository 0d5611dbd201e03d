use Rattle.path_states.proofs.GroupMarks.{IsMarking}
use Rattle.bud_design.specs.Exceptions.{has_pin}
use Rattle.path_states.proofs.groups.mark_groups.Given as goal

abbrev pub invariant-loop-group : goal.invariant-loop-group
invariant-loop-group l = IsMarking has_pin l.exception.groups l.group-index l.initial.marks l.marks
