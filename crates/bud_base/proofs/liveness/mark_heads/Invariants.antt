use Rattle.bud_base.proofs.MarkLemmas.{IsMarkingHeads}
use Rattle.bud_base.proofs.Trials.{rest_of}
use Rattle.bud_base.proofs.liveness.mark_heads.Given as goal

abbrev pub invariant-loop-next : goal.invariant-loop-next
invariant-loop-next l = IsMarkingHeads l.items l.fn.node.0 l.next l.initial.marks l.marks

abbrev pub decreases-loop-next : goal.decreases-loop-next
decreases-loop-next l = rest_of l.items l.next
