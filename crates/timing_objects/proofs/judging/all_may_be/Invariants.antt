use Rattle.std.proofs.Common.{◌≡◌, drop}
use Rattle.std.specs.List.{list_all}
use Rattle.timing_objects.specs.Objects.{may_be}
use Rattle.timing_objects.proofs.judging.all_may_be.Given as goal

abbrev pub invariant-loop-thing : goal.invariant-loop-thing
invariant-loop-thing l = list_all (may_be l.scene l.role) l.things ≡ list_all (may_be l.scene l.role) (drop l.thing-index l.things)
