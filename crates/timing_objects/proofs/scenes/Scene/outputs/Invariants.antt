use Rattle.std.proofs.Common.{◌≡◌, ◌++◌, drop, filter}
use Rattle.bud_design.specs.Designs.{pin_at, is_output}
use Rattle.timing_objects.specs.PortNames.{numbers}
use Rattle.timing_objects.proofs.scenes.Scene.outputs.Given as goal

abbrev pub invariant-loop-bit : goal.invariant-loop-bit
invariant-loop-bit l = filter (λ v. is_output (pin_at l.pins v).dir) (numbers l.bit-items) ≡ numbers l.outputs.items ++ filter (λ v. is_output (pin_at l.pins v).dir) (numbers (drop l.bit-index l.bit-items))
