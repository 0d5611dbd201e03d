use Rattle.std.proofs.Common.{◌≡◌, ◌++◌, drop, map}
use Rattle.std.specs.Prelude.{All}
use Rattle.timing_objects.specs.PortNames.{numbers, named_as, HasPlain, bit_named}
use Rattle.timing_objects.proofs.port_names.bit_names.Given as goal

abbrev pub invariant-loop-bit : goal.invariant-loop-bit
invariant-loop-bit l =
    (map (bit_named l.pins) (numbers l.bits) ≡ map named_as l.names.items ++ map (bit_named l.pins) (numbers (drop l.bit-index l.bits)))
    × All HasPlain l.names.items
