use Rattle.std.proofs.Common.{◌≡◌, ◌++◌, length}
use Rattle.std.specs.Vec.Iter.{into_iter_items, into_iter_len}
use Rattle.path_states.specs.Tables.{table_of}
use Rattle.path_states.specs.Exploring.{IsExploring}
use Rattle.path_states.proofs.exploring.explore.Given as goal

abbrev pub invariant-loop-class : goal.invariant-loop-class
invariant-loop-class l = (l.yielded ++ into_iter_items l.class-iterator ≡ into_iter_items l.initial.class-iterator)
    × (into_iter_len l.class-iterator ≡ length (into_iter_items l.class-iterator))
    × (l.number ≡ length l.yielded)
    × (l.done ≡ length l.table.states.keys)
    × IsExploring l.arcs l.all (table_of l.table) (length l.table.states.keys) l.number l.number
