use Rattle.path_classes.specs.Placing.{AreStarts}
use Rattle.path_classes.proofs.starts.starts_in.Given as goal

abbrev pub invariant-loop-place : goal.invariant-loop-place
invariant-loop-place l = AreStarts l.all l.kinds l.ranks l.nodes l.place l.starts.items
