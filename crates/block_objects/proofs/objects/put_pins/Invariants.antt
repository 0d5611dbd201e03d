use Rattle.std.proofs.Common.{◌≡◌, ◌++◌, drop, map}
use Rattle.bud_syntax.specs.declared.constraints.Object.TheVariants.{Pins}
use Rattle.bud_design.specs.Designs.{pin_name}
use Rattle.block_objects.proofs.objects.put_pins.Given as goal

-- the objects so far and those of what is left are all
abbrev pub invariant-loop-pin : goal.invariant-loop-pin
invariant-loop-pin l =
    l.out.items ++ map (λ v. Pins (pin_name l.names.flat.now l.names.block v)) (drop l.pin-index l.pins)
    ≡ l.fn.out.items ++ map (λ v. Pins (pin_name l.names.flat.now l.names.block v)) l.pins
