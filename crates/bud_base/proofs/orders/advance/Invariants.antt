use Rattle.bud_base.specs.Searches.{IsTop}
use Rattle.bud_base.proofs.Trials.{rest_of}
use Rattle.bud_base.proofs.orders.advance.Given as goal

abbrev pub invariant-loop-next : goal.invariant-loop-next
invariant-loop-next l = IsTop l.items l.marks (record { node = l.fn.top.node; next = l.next })

abbrev pub decreases-loop-next : goal.decreases-loop-next
decreases-loop-next l = rest_of l.items l.next
