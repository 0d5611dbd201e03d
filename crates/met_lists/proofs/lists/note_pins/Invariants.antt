use Rattle.std.proofs.Common.{take}
use Rattle.bud_design.specs.Exceptions.{has_pin}
use Rattle.name_tables.specs.Chained.{key_at}
use Rattle.met_lists.specs.Lists.{Notes}
use Rattle.met_lists.proofs.lists.note_pins.Given as goal

abbrev pub invariant-loop-pin : goal.invariant-loop-pin
invariant-loop-pin l = Notes l.turn l.table.pins.keys.items (λ v. has_pin (take l.pin-index l.pins) (key_at l.table.pins.keys.items v)) l.initial.lists l.lists
