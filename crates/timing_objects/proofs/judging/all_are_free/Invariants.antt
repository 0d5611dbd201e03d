use Rattle.std.proofs.Common.{◌≡◌, drop}
use Rattle.std.specs.List.{list_all}
use Rattle.timing_objects.specs.Objects.{is_free}
use Rattle.timing_objects.proofs.judging.all_are_free.Given as goal

abbrev pub invariant-loop-thing : goal.invariant-loop-thing
invariant-loop-thing l = list_all (is_free l.role l.clocks) l.things ≡ list_all (is_free l.role l.clocks) (drop l.thing-index l.things)
