use Rattle.std.proofs.Common.{suc, ◌-◌, ◌^◌}
use Rattle.path_states.specs.Tables.{table_of}
use Rattle.path_states.specs.Exploring.{IsExploring}
use Rattle.path_states.proofs.exploring.close.Given as goal

abbrev pub invariant-loop-done : goal.invariant-loop-done
invariant-loop-done l = IsExploring l.arcs l.all (table_of l.table) l.done l.launch (suc l.launch)

abbrev pub decreases-loop-done : goal.decreases-loop-done
decreases-loop-done l = 2 ^ 32 - l.done
