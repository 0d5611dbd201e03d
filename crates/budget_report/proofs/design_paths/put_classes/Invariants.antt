use Rattle.std.proofs.Common.{◌≡◌, ◌++◌, drop}
use Rattle.budget_report.specs.DesignPaths.{class_lines}
use Rattle.budget_report.proofs.design_paths.put_classes.Given as goal

abbrev pub invariant-loop-number : goal.invariant-loop-number
invariant-loop-number l = l.fn.out.items ++ class_lines l.all l.numbers 0 l.classes ≡ l.out.items ++ class_lines l.all l.numbers l.number (drop l.number l.classes)
