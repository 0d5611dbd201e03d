use Rattle.path_classes.specs.Placing.{AreNodeEnds}
use Rattle.path_classes.proofs.ends.problem_ends.Given as goal

abbrev pub invariant-loop-place : goal.invariant-loop-place
invariant-loop-place l = AreNodeEnds l.all l.classes l.nodes l.place l.ends.items
