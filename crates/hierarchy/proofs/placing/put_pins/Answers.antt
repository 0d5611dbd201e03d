use Rattle.std.proofs.Common.{◌≡◌, length, arith, ap}
use Rattle.hierarchy.proofs.PlacingLaws.{ports-whole}
use Rattle.hierarchy.proofs.placing.put_pins.Goals as goal

pub returns-clause-put : goal.returns-clause-put
returns-clause-put c =
    let whole : c.loop-port.port-index ≡ length c.args.«module».now.ports = omega (arith, c.loop-port-test.false, c.loop-port.auto.port-index-end, ap length c.as_slice-port-items.ensures) in
    ports-whole c.args.place c.args.«module».now c.args.pins.now.items c.loop-port.pins.items c.loop-port.port-index whole c.loop-port.invariant.put
