use Rattle.path_states.specs.Tables.{table_of}
use Rattle.path_classes.specs.Placing.{AreNodes}
use Rattle.path_classes.proofs.nodes.place_nodes.Given as goal

abbrev pub invariant-loop-place : goal.invariant-loop-place
invariant-loop-place l = AreNodes (table_of l.table) l.live l.ranks.ranks.items l.place l.nodes.items
