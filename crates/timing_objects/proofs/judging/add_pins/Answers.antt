use Rattle.std.proofs.Common.{◌++◌, sym, ◌∙◌, ap}
use Rattle.timing_objects.specs.Objects.{pins_in}
use Rattle.timing_objects.proofs.ThingLaws.{unnumber}
use Rattle.timing_objects.proofs.judging.add_pins.Goals as goal

pub returns-in_ok-extend_from_slice-in-Cell : goal.returns-in_ok-extend_from_slice-in-Cell
returns-in_ok-extend_from_slice-in-Cell c =
    c.in_ok-extend_from_slice-in-Cell.ensures.items
    ∙ ap (λ vs. c.args.pins.now.items ++ vs)
    (c.as_slice.ensures ∙ (unnumber c.in_ok-own-in-Cell.own _ c.in_ok-own-in-Cell.ensures ∙ ap (pins_in c.args.scene.now c.args.role) (sym c.in-Cell.is)))
