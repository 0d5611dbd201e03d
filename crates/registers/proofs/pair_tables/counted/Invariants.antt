use Rattle.std.proofs.Common.{◌≡◌, ◌++◌, drop}
use Rattle.std.specs.List.{filter_map}
use Rattle.registers.specs.PairLists.{marked_pair}
use Rattle.registers.proofs.pair_tables.counted.Given as goal

abbrev pub invariant-loop-delay : goal.invariant-loop-delay
invariant-loop-delay l = filter_map (marked_pair l.pins l.marks) l.delays ≡ l.pairs.items ++ filter_map (marked_pair l.pins l.marks) (drop l.delay-index l.delays)
