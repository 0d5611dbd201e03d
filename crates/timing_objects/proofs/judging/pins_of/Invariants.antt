use Rattle.std.proofs.Common.{◌≡◌, ◌++◌, drop}
use Rattle.std.specs.Prelude.{flat_map}
use Rattle.timing_objects.specs.Objects.{pins_in}
use Rattle.timing_objects.proofs.judging.pins_of.Given as goal

abbrev pub invariant-loop-thing : goal.invariant-loop-thing
invariant-loop-thing l = flat_map (pins_in l.scene l.role) l.things ≡ l.pins.items ++ flat_map (pins_in l.scene l.role) (drop l.thing-index l.things)
