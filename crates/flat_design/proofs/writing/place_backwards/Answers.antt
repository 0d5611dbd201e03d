use Rattle.std.proofs.Common.{◌++◌, reverse, sym, ◌∙◌, ap}
use Rattle.std.proofs.lemmas.List.{reverse-append}
use Rattle.bud_design.specs.Designs.{place_at, place_name}
use Rattle.flat_design.specs.declared.texts.Form.TheVariants.{Printed}
use Rattle.flat_design.specs.Fronts.{front}
use Rattle.flat_design.proofs.FrontLaws.{is_top, name-more}
use Rattle.flat_design.proofs.writing.place_backwards.Goals as goal

pub returns-in_default : goal.returns-in_default
returns-in_default c =
    let top = is_top c.args.places.now c.requires.places c.args.place c.requires.place (sym c.above.ensures ∙ c.in_default.is) in
    c.new-text.ensures.items ∙ sym (ap (λ p. reverse (place_name c.args.places.now 0 p)) top)

pub returns : goal.returns
returns c =
    let places = c.args.places.now in
    let parent = sym c.above.ensures ∙ c.in-Some.is in
    let before = front Printed places c.in-Some.parent in
    let own = (place_at places c.args.place).name in
    let put = c.in_ok-put_backwards.ensures ∙ (ap (λ s. s ++ reverse c.own_name.result.now) c.new-text.ensures.items ∙ ap reverse c.own_name.ensures) in
    c.in_ok-put_front_backwards.ensures ∙ (ap (λ s. s ++ reverse before) put
    ∙ sym (ap reverse (name-more places c.requires.places Printed c.args.place c.in-Some.parent c.requires.place parent) ∙ reverse-append before own))
