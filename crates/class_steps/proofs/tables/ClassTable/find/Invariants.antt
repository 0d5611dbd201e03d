use Rattle.class_steps.proofs.LinkLaws.{IsSearching, rest_of}
use Rattle.class_steps.proofs.tables.ClassTable.find.Given as goal

abbrev pub invariant-loop-next : goal.invariant-loop-next
invariant-loop-next l = IsSearching l.self l.«class» l.next

abbrev pub decreases-loop-next : goal.decreases-loop-next
decreases-loop-next l = rest_of l.next
