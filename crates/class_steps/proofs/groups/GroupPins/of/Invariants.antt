use Rattle.class_steps.proofs.GroupSets.{AreGathered}
use Rattle.class_steps.proofs.groups.GroupPins.of.Given as goal

abbrev pub invariant-loop-exception : goal.invariant-loop-exception
invariant-loop-exception l = AreGathered l.exceptions l.exception-index l.numbers.keys l.pins.keys
