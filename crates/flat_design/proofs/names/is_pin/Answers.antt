use Rattle.std.proofs.Common.{◌++◌, sym, ◌∙◌, ap}
use Rattle.bud_design.specs.Names.{bit_name}
use Rattle.flat_design.specs.Fronts.{formed, front}
use Rattle.flat_design.proofs.TextLaws.{test-before}
use Rattle.flat_design.proofs.names.is_pin.Goals as goal

pub returns-in-Some : goal.returns-in-Some
returns-in-Some c =
    c.is_front.ensures
    ∙ sym (test-before (front c.args.form c.args.places.now c.args.pin.now.place) c.args.name.now c.in-Some.before.now (formed c.args.form (bit_name c.args.pin.now.port c.args.pin.now.bit))
    (c.in-Some.ensures ∙ ap (λ s. c.in-Some.before.now ++ formed c.args.form (bit_name s c.args.pin.now.bit)) c.as_slice.ensures))
