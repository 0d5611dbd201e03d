use Rattle.std.proofs.Common.{◌≡◌, ◌<◌, None, filter, drop, length}
use Rattle.std.specs.Prelude.{IfSome}
use Rattle.bud_design.specs.Designs.{is_pin_of}
use Rattle.block_theory.specs.Blocks.{least_pin}
use Rattle.through_pins.proofs.pins.pin_of_group.Given as goal

abbrev pub invariant-loop-pin : goal.invariant-loop-pin
invariant-loop-pin l =
    (least_pin None (filter (λ v. is_pin_of l.flat l.block v.0) l.group) ≡ least_pin l.best (filter (λ v. is_pin_of l.flat l.block v.0) (drop l.pin-index l.group)))
    × IfSome l.best (λ p. p < length l.flat.pins)
