use Rattle.std.proofs.Common.{◌-◌, length}
use Rattle.design_wires.specs.Numbers.{AreFirstFrom}
use Rattle.design_wires.proofs.numbers.first_pins.Given as goal

abbrev pub invariant-loop-behind : goal.invariant-loop-behind
invariant-loop-behind l = AreFirstFrom l.pins l.count (length l.pins - l.behind) l.firsts.items
