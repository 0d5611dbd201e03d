use Rattle.std.proofs.Common.{◌≡◌, ◌≤◌, ◌<◌, None, length, get_or, ℕ}
use Rattle.clock_reach.proofs.FanoutSteps.{AreFanoutFrom}
use Rattle.clock_reach.proofs.fanout.Fanout.fill.Given as goal

abbrev pub invariant-loop-head : goal.invariant-loop-head
invariant-loop-head l = (k : ℕ) → k < l.head-index → get_or l.head-items k None ≡ None

abbrev pub invariant-loop-low : goal.invariant-loop-low
invariant-loop-low l = (l.low ≤ length l.wires) × AreFanoutFrom l.wires l.low l.self-inside.first.items l.self-inside.next.items × (length l.self-inside.first.items ≡ length l.initial.self-inside.first.items) × (length l.self-inside.next.items ≡ length l.initial.self-inside.next.items)

abbrev pub decreases-loop-low : goal.decreases-loop-low
decreases-loop-low l = l.low
