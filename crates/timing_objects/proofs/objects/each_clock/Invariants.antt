use Rattle.std.proofs.Common.{◌≡◌, map}
use Rattle.std.specs.List.{range_with_len}
use Rattle.timing_objects.specs.declared.things.Thing.TheVariants.{Clock}
use Rattle.timing_objects.proofs.objects.each_clock.Given as goal

abbrev pub invariant-loop-number : goal.invariant-loop-number
invariant-loop-number l = l.things.items ≡ map (λ c. Clock c) (range_with_len 0 l.number)
