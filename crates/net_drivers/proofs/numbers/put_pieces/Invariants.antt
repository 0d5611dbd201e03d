use Rattle.std.proofs.Common.{take}
use Rattle.module_nets.specs.Nets.{expression_bits}
use Rattle.net_drivers.specs.Appending.{Appends}
use Rattle.net_drivers.proofs.numbers.put_pieces.Given as goal

abbrev pub invariant-loop-k : goal.invariant-loop-k
invariant-loop-k l = Appends l.table.module.now (expression_bits l.table.module.now (take l.k l.pieces)) l.initial.into.items l.into.items
