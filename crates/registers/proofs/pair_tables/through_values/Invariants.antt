use Rattle.std.proofs.Common.{◌≡◌, ◌++◌, map, drop}
use Rattle.registers.specs.PairLists.{through_value}
use Rattle.registers.proofs.pair_tables.through_values.Given as goal

abbrev pub invariant-loop-through : goal.invariant-loop-through
invariant-loop-through l = map through_value l.throughs ≡ l.values.items ++ map through_value (drop l.through-index l.throughs)
