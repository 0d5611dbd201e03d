use Rattle.std.proofs.Common.{◌≡◌, ◌++◌, drop}
use Rattle.budget_report.specs.DesignPaths.{item_lines}
use Rattle.budget_report.proofs.design_paths.put_items.Given as goal

abbrev pub invariant-loop-item : goal.invariant-loop-item
invariant-loop-item l = l.fn.out.items ++ item_lines l.flat l.layered l.items ≡ l.out.items ++ item_lines l.flat l.layered (drop l.item-index l.items)
