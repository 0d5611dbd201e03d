use Rattle.std.proofs.Common.{◌≡◌, ◌++◌, drop, map}
use Rattle.bud_design.specs.Exceptions.{step_at}
use Rattle.class_steps.proofs.classes.next_class.Given as goal

abbrev pub invariant-loop-before : goal.invariant-loop-before
invariant-loop-before l = map (step_at l.all.exceptions l.pin.0) l.before-items ≡ l.met.items ++ map (step_at l.all.exceptions l.pin.0) (drop l.before-index l.before-items)
