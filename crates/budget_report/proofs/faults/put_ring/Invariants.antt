use Rattle.std.proofs.Common.{◌≡◌, ◌++◌, drop}
use Rattle.budget_report.specs.Causes.{ring_lines}
use Rattle.budget_report.proofs.faults.put_ring.Given as goal

abbrev pub invariant-loop-item : goal.invariant-loop-item
invariant-loop-item l = l.fn.out.items ++ ring_lines l.items l.ring ≡ l.out.items ++ ring_lines l.items (drop l.item-index l.ring)
