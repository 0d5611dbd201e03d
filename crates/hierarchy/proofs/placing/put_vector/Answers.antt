use Rattle.std.proofs.Common.{◌≡◌, ◌<◌, Some, length, map, arith}
use Rattle.std.proofs.lemmas.List.{length-map}
use Rattle.module_nets.specs.Nets.{range_bits}
use Rattle.module_nets.specs.Numbers.{range_width}
use Rattle.module_nets.proofs.WidthLaws.{length-range_bits}
use Rattle.hierarchy.specs.Placing.{port_pin}
use Rattle.hierarchy.proofs.PlacingLaws.{vector-more, take-whole}
use Rattle.hierarchy.proofs.placing.put_vector.Goals as goal

pub loop-steps-preserved : goal.loop-steps-preserved
loop-steps-preserved c =
    let below : c.loop-steps.steps < range_width (Some c.args.range) = omega (arith, c.loop-steps-test.true, c.range_width-steps-end.ensures) in
    record {
      put = vector-more c.args.place c.args.port.now c.args.range c.args.pins.now.items c.loop-steps.pins.items c.put_pin.new.pins.items c.loop-steps.steps c.number_at.result below c.number_at.ensures c.loop-steps.invariant.put c.in_ok-put_pin.ensures.put;
      short = c.in_ok-put_pin.ensures.short;
    }

pub returns-clause-put : goal.returns-clause-put
returns-clause-put c =
    let pins = map (port_pin c.args.place c.args.port.now) (range_bits (Some c.args.range)) in
    let whole : c.loop-steps.steps ≡ length pins =
    omega (arith, c.loop-steps-test.false, c.loop-steps.auto.steps-end, c.range_width-steps-end.ensures, length-range_bits (Some c.args.range), length-map (range_bits (Some c.args.range)) (port_pin c.args.place c.args.port.now)) in
    take-whole c.args.pins.now.items c.loop-steps.pins.items pins c.loop-steps.steps whole c.loop-steps.invariant.put
