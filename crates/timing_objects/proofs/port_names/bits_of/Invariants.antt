use Rattle.std.proofs.Common.{◌≡◌, ◌-◌, map}
use Rattle.std.specs.List.{range_with_len}
use Rattle.timing_objects.proofs.SpanSteps.{pin_of}
use Rattle.timing_objects.proofs.port_names.bits_of.Given as goal

abbrev pub invariant-loop-number : goal.invariant-loop-number
invariant-loop-number l = l.bits.items ≡ map pin_of (range_with_len l.initial.number (l.number - l.initial.number))
