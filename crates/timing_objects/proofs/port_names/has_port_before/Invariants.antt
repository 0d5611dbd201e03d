use Rattle.std.proofs.Common.{◌≡◌, drop}
use Rattle.timing_objects.specs.PortNames.{numbers, comes_before}
use Rattle.timing_objects.proofs.port_names.has_port_before.Given as goal

abbrev pub invariant-loop-other : goal.invariant-loop-other
invariant-loop-other l = comes_before l.pins l.port l.bit.0 (numbers l.bits) ≡ comes_before l.pins l.port l.bit.0 (numbers (drop l.other-index l.bits))
