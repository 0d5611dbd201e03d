use Rattle.std.proofs.Common.{◌≤◌, length}
use Rattle.bud_base.proofs.ReachLemmas.{IsPulled}
use Rattle.live_states.specs.Leading.{leading_graph}
use Rattle.live_states.proofs.leading.spread_back.Given as goal

abbrev pub invariant-loop-place : goal.invariant-loop-place
invariant-loop-place l = (l.place ≤ length l.order.order) × IsPulled (leading_graph l.fn.nodes l.items l.ends) l.order.order l.marks l.place

abbrev pub decreases-loop-place : goal.decreases-loop-place
decreases-loop-place l = l.place
