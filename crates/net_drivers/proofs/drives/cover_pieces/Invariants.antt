use Rattle.std.proofs.Common.{take}
use Rattle.module_nets.specs.Nets.{all_bits, expression_bits}
use Rattle.net_drivers.specs.Phases.{Stands}
use Rattle.net_drivers.proofs.drives.cover_pieces.Given as goal

abbrev pub invariant-loop-piece : goal.invariant-loop-piece
invariant-loop-piece l = Stands (all_bits l.table.module.now) (expression_bits l.table.module.now (take l.piece-index l.pieces)) l.initial.rows l.rows
