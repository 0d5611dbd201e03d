use Rattle.std.proofs.Common.{◌+◌, ◌-◌, length, count_by}
use Rattle.clock_reach.specs.Walks.{is_free, IsWalked}
use Rattle.clock_reach.proofs.walks.mark_pins.Given as goal

abbrev pub invariant-loop-done : goal.invariant-loop-done
invariant-loop-done l = IsWalked l.wires l.clocks l.pins l.walk.marks.items l.walk.queue.items l.done

abbrev pub decreases-loop-done : goal.decreases-loop-done
decreases-loop-done l = count_by is_free l.walk.marks.items + length l.walk.queue.items - l.done
