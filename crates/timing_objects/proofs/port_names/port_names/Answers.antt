use Rattle.std.proofs.Common.{◌≡◌, ◌++◌, map, filter, rules}
use Rattle.timing_objects.specs.PortNames.{numbers, named_as, bit_named, vector_named, leads_among}
use Rattle.timing_objects.proofs.NameSteps.{port-names-are}
use Rattle.timing_objects.proofs.port_names.port_names.Goals as goal

pub returns : goal.returns
returns c =
    let bits = c.in_ok-bits.bits in
    let named : map named_as c.from_vec.result ≡ map (bit_named c.args.pins.now) (numbers bits) ++ map (vector_named c.args.pins.now (numbers bits)) (filter (leads_among c.args.pins.now (numbers bits)) (numbers bits))
    = cc (c.in_ok-names.ensures.named, c.in_ok-add_vectors.ensures.named) in
    record { named = port-names-are c.args.pins.now (numbers bits) _ c.in_ok-bits.ensures.bits named; plain = search rules }
