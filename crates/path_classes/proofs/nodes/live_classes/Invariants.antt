use Rattle.std.proofs.Common.{◌≡◌, ◌++◌, drop}
use Rattle.path_classes.specs.Placing.{classes_of}
use Rattle.path_classes.proofs.nodes.live_classes.Given as goal

abbrev pub invariant-loop-key : goal.invariant-loop-key
invariant-loop-key l = classes_of l.kinds l.keys ≡ l.classes.items ++ classes_of l.kinds (drop l.key-index l.keys)
