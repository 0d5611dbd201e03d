use Rattle.std.proofs.Common.{arith}
use Rattle.timing_objects.specs.PortNames.{bit_named}
use Rattle.timing_objects.proofs.NameSteps.{names-more, plain-push}
use Rattle.timing_objects.proofs.port_names.bit_names.Goals as goal

pub loop-bit-preserved : goal.loop-bit-preserved
loop-bit-preserved c = (
  names-more (bit_named c.args.pins.now) _ c.loop-bit.names.items _ c.in_ok-name.name c.args.bits.now c.loop-bit.bit-index (record { 0 = 0 }) (omega arith)
      c.in_ok-push.ensures.items c.in_ok-name.ensures.named c.loop-bit.invariant.0,
  plain-push c.loop-bit.names.items _ c.in_ok-name.name c.in_ok-push.ensures.items c.in_ok-name.ensures.plain c.loop-bit.invariant.1,
)
