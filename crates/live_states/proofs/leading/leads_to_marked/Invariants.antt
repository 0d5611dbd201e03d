use Rattle.bud_base.proofs.MarkLemmas.{IsSeekingMark}
use Rattle.bud_base.proofs.Trials.{rest_of}
use Rattle.live_states.proofs.leading.leads_to_marked.Given as goal

abbrev pub invariant-loop-next : goal.invariant-loop-next
invariant-loop-next l = IsSeekingMark l.items l.fn.node.0 l.next l.marks

abbrev pub decreases-loop-next : goal.decreases-loop-next
decreases-loop-next l = rest_of l.items l.next
