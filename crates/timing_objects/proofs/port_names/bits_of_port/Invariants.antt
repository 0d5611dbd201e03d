use Rattle.std.proofs.Common.{◌≡◌, ◌++◌, drop, filter}
use Rattle.timing_objects.specs.PortNames.{numbers, has_port}
use Rattle.timing_objects.proofs.port_names.bits_of_port.Given as goal

abbrev pub invariant-loop-bit : goal.invariant-loop-bit
invariant-loop-bit l = filter (has_port l.pins l.port) (numbers l.bits) ≡ numbers l.found.items ++ filter (has_port l.pins l.port) (numbers (drop l.bit-index l.bits))
