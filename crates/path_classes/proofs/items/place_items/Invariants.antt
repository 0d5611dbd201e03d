use Rattle.path_states.specs.Tables.{table_of}
use Rattle.path_classes.specs.Placing.{AreItems}
use Rattle.path_classes.proofs.items.place_items.Given as goal

abbrev pub invariant-loop-place : goal.invariant-loop-place
invariant-loop-place l = AreItems (table_of l.table) l.live l.ranks.ranks.items l.place l.items.items
