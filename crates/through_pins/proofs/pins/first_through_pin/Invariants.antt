use Rattle.std.proofs.Common.{◌≡◌, drop}
use Rattle.block_theory.specs.Blocks.{through_inside}
use Rattle.through_pins.proofs.pins.first_through_pin.Given as goal

abbrev pub invariant-loop-block : goal.invariant-loop-block
invariant-loop-block l = through_inside l.flat l.blocks l.exceptions ≡ through_inside l.flat (drop l.block-index l.blocks) l.exceptions
