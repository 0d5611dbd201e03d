use Rattle.std.specs.Prelude.{nat_lt}
use Rattle.met_lists.specs.Lists.{Notes}
use Rattle.met_lists.proofs.lists.note_all.Given as goal

abbrev pub invariant-loop-number : goal.invariant-loop-number
invariant-loop-number l = Notes l.turn l.pins.keys.items (λ v. nat_lt v l.number) l.initial.lists l.lists
