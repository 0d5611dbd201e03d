use Rattle.design_wires.specs.Numbers.{AreKidsBefore}
use Rattle.design_wires.proofs.numbers.all_kids.Given as goal

abbrev pub invariant-loop-number : goal.invariant-loop-number
invariant-loop-number l = AreKidsBefore l.places l.number l.kids.items
