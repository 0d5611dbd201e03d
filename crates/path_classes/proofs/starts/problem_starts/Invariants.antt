use Rattle.std.proofs.Common.{◌≡◌, ◌++◌, drop, map}
use Rattle.path_classes.specs.Placing.{start_of}
use Rattle.path_classes.proofs.starts.problem_starts.Given as goal

abbrev pub invariant-loop-x : goal.invariant-loop-x
invariant-loop-x l = map (start_of l.launches) l.starts ≡ l.list.items ++ map (start_of l.launches) (drop l.x-index l.starts)
