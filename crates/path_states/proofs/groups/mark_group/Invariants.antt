use Rattle.path_states.proofs.GroupMarks.{IsMarking}
use Rattle.std.proofs.Common.{◌==◌}
use Rattle.bud_base.specs.declared.ids.PinId.{PinId}
use Rattle.path_states.proofs.groups.mark_group.Given as goal

abbrev pub invariant-loop-pin : goal.invariant-loop-pin
invariant-loop-pin l = IsMarking (λ (p : PinId) v. p.0 == v) l.group l.pin-index l.initial.marks l.marks
