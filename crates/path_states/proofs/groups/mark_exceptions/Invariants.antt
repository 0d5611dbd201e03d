use Rattle.path_states.proofs.GroupMarks.{IsMarking}
use Rattle.path_states.specs.Groups.{is_in_groups}
use Rattle.path_states.proofs.groups.mark_exceptions.Given as goal

abbrev pub invariant-loop-exception : goal.invariant-loop-exception
invariant-loop-exception l = IsMarking is_in_groups l.exceptions l.exception-index l.initial.marks l.marks
