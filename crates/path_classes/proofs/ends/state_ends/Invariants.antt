use Rattle.path_states.specs.Tables.{table_of}
use Rattle.path_classes.specs.Placing.{AreStateEnds}
use Rattle.path_classes.proofs.ends.state_ends.Given as goal

abbrev pub invariant-loop-place : goal.invariant-loop-place
invariant-loop-place l = AreStateEnds l.all (table_of l.table) l.place l.ends.items
