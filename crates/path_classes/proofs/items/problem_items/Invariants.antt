use Rattle.std.proofs.Common.{take}
use Rattle.std.specs.List.{AllZip}
use Rattle.path_classes.specs.Placing.{IsItemAt}
use Rattle.path_classes.proofs.items.problem_items.Given as goal

abbrev pub invariant-loop-x : goal.invariant-loop-x
invariant-loop-x l = AllZip (IsItemAt l.arcs l.nodes) (take l.x-index l.items) l.list.items
