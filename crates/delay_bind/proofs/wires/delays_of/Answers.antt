use Rattle.std.proofs.Common.{Some, None, length}
use Rattle.net_delays.specs.Alongs.{sum_of}
use Rattle.net_delays.specs.Rests.{AreSteps, IsLeastNegative}
use Rattle.net_delays.specs.WireForests.{drive, pin_count}
use Rattle.delay_bind.proofs.NetLaws.{sound-alongs, AreWires-made, IsNegativeWire-made}
use Rattle.delay_bind.proofs.wires.delays_of.Goals as goal

pub sums-requires-clause-sound : goal.sums-requires-clause-sound
sums-requires-clause-sound c =
    sound-alongs c.args.flat.now c.wires-wires.ensures.kept.is_design (drive c.args.forest.now) c.requires.drives (pin_count c.args.forest.now) c.requires.pins c.args.alongs.now c.requires.sound

pub negative_rest-requires-clause-sound : goal.negative_rest-requires-clause-sound
negative_rest-requires-clause-sound c =
    sound-alongs c.args.flat.now c.wires-wires.ensures.kept.is_design (drive c.args.forest.now) c.requires.drives (pin_count c.args.forest.now) c.requires.pins c.args.alongs.now c.requires.sound

pub returns-in_default-negative_rest : goal.returns-in_default-negative_rest
returns-in_default-negative_rest c =
    let steps : AreSteps (sum_of c.in-Ok.sums.items) c.args.flat.now.wires c.in-Ok-wire_delays.delays = rw (c.deref.ensures.value, c.wires-wires.ensures.lent) at c.in-Ok-wire_delays.ensures in
    let least : IsLeastNegative (drive c.args.forest.now) (sum_of c.in-Ok.sums.items) c.args.alongs.now (length c.args.alongs.now) None = rw c.deref-2.ensures.value at c.in_default-negative_rest.ensures in
    AreWires-made c.args.flat.now c.wires-wires.ensures.kept.is_design (drive c.args.forest.now) c.requires.drives (pin_count c.args.forest.now) c.requires.pins c.args.alongs.now c.requires.sound
    c.in-Ok.sums.items c.in-Ok-wire_delays.delays c.in-Ok.ensures steps least

pub returns-in-Ok-name_of_pin : goal.returns-in-Ok-name_of_pin
returns-in-Ok-name_of_pin c =
    let steps : AreSteps (sum_of c.in-Ok.sums.items) c.args.flat.now.wires c.in-Ok-wire_delays.delays = rw (c.deref.ensures.value, c.wires-wires.ensures.lent) at c.in-Ok-wire_delays.ensures in
    let least : IsLeastNegative (drive c.args.forest.now) (sum_of c.in-Ok.sums.items) c.args.alongs.now (length c.args.alongs.now) (Some c.in-Some.pin) = rw c.deref-2.ensures.value at c.in-Some.ensures in
    IsNegativeWire-made c.args.flat.now c.wires-wires.ensures.kept.is_design (drive c.args.forest.now) c.requires.drives (pin_count c.args.forest.now) c.requires.pins c.args.alongs.now c.requires.sound
    c.in-Ok.sums.items c.in-Ok-wire_delays.delays c.in-Ok.ensures steps c.in-Some.pin c.in-Ok-name_of_pin.name least c.in-Ok-name_of_pin.ensures
