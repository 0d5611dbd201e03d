use Rattle.std.proofs.Common.{◌≡◌, ◌++◌, drop}
use Rattle.std.specs.Prelude.{flat_map}
use Rattle.timing_objects.specs.Objects.{clocks_in}
use Rattle.timing_objects.proofs.judging.clocks_of.Given as goal

abbrev pub invariant-loop-thing : goal.invariant-loop-thing
invariant-loop-thing l = flat_map clocks_in l.things ≡ l.clocks.items ++ flat_map clocks_in (drop l.thing-index l.things)
