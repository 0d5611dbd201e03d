use Rattle.std.proofs.Common.{◌≡◌, ◌∷◌, ◌++◌, drop}
use Rattle.budget_report.specs.DesignPaths.{class_of_node, item_classes}
use Rattle.budget_report.proofs.design_paths.path_classes.Given as goal

abbrev pub invariant-loop-item : goal.invariant-loop-item
invariant-loop-item l = class_of_node l.layered l.fn.start.0 ∷ item_classes l.layered l.items ≡ l.numbers.items ++ item_classes l.layered (drop l.item-index l.items)
