use Rattle.std.proofs.Common.{take}
use Rattle.bud_design.specs.Exceptions.{has_clock}
use Rattle.name_tables.specs.Chained.{key_at}
use Rattle.met_lists.specs.Lists.{Notes}
use Rattle.met_lists.proofs.lists.note_clocks.Given as goal

abbrev pub invariant-loop-clock : goal.invariant-loop-clock
invariant-loop-clock l = Notes l.turn l.table.pins.keys.items (λ v. has_clock (take l.clock-index l.clocks) (key_at l.table.clocks.keys.items v)) l.initial.lists l.lists
