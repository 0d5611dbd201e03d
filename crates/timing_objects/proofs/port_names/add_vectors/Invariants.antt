use Rattle.std.proofs.Common.{◌≡◌, ◌++◌, drop, map, filter}
use Rattle.std.specs.Prelude.{All}
use Rattle.timing_objects.specs.PortNames.{numbers, named_as, HasPlain, vector_named, leads_among}
use Rattle.timing_objects.proofs.port_names.add_vectors.Given as goal

abbrev pub invariant-loop-bit : goal.invariant-loop-bit
invariant-loop-bit l =
    (map named_as l.initial.names.items ++ map (vector_named l.pins (numbers l.bits)) (filter (leads_among l.pins (numbers l.bits)) (numbers l.bits))
    ≡ map named_as l.names.items ++ map (vector_named l.pins (numbers l.bits)) (filter (leads_among l.pins (numbers l.bits)) (numbers (drop l.bit-index l.bits))))
    × All HasPlain l.names.items
