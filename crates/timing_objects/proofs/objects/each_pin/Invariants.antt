use Rattle.std.proofs.Common.{◌≡◌, ◌++◌, drop, map}
use Rattle.timing_objects.specs.Objects.{a_pin}
use Rattle.timing_objects.specs.PortNames.{numbers}
use Rattle.timing_objects.proofs.objects.each_pin.Given as goal

abbrev pub invariant-loop-pin : goal.invariant-loop-pin
invariant-loop-pin l = map a_pin (numbers l.pins) ≡ l.things.items ++ map a_pin (numbers (drop l.pin-index l.pins))
