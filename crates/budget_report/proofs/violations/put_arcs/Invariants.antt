use Rattle.std.proofs.Common.{◌≡◌, ◌++◌, drop}
use Rattle.budget_report.specs.Violations.{arc_lines}
use Rattle.budget_report.proofs.violations.put_arcs.Given as goal

abbrev pub invariant-loop-item : goal.invariant-loop-item
invariant-loop-item l = l.fn.out.items ++ arc_lines l.items l.path ≡ l.out.items ++ arc_lines l.items (drop l.item-index l.path)
