use Rattle.std.proofs.Common.{◌≡◌, length}
use Rattle.clock_reach.proofs.WalkLemmas.{IsSpreading, rest_of}
use Rattle.clock_reach.proofs.walks.Walk.spread.Given as goal

abbrev pub invariant-loop-next : goal.invariant-loop-next
invariant-loop-next l = (length l.self.marks.items ≡ length l.initial.self.marks.items) × IsSpreading l.wires l.next l.front l.initial.self.marks.items l.initial.self.queue.items l.self.marks.items l.self.queue.items

abbrev pub decreases-loop-next : goal.decreases-loop-next
decreases-loop-next l = rest_of l.wires l.next
