use Rattle.std.proofs.Common.{◌≡◌, ℕ, List, ◌++◌, reverse, subst, ◌∙◌, ap, OnOk}
use Rattle.std.specs.Prelude.{slice_index_or}
use Rattle.std.proofs.lemmas.List.{reverse-reverse}
use Rattle.bud_design.specs.Designs.{Design, pin_name}
use Rattle.bud_design.specs.Names.{bit_name}
use Rattle.flat_design.specs.declared.texts.Form.TheVariants.{Printed}
use Rattle.flat_design.specs.Flats.{IsFlat}
use Rattle.flat_design.specs.Fronts.{front}
use Rattle.flat_design.proofs.FlatLaws.{pin-named}
use Rattle.flat_design.proofs.flats.Flat.name_of.Goals as goal

pub returns-clause-ok : goal.returns-clause-ok
returns-clause-ok c =
    let flat = subst IsFlat c.self.view_is c.self.invariant.flat in
    let p = c.index-as_slice-pin.result in
    let places : c.as_slice-2.result.now ≡ c.args.self.now.places = c.as_slice-2.ensures ∙ ap (λ (d : Design). d.places) c.self.view_is in
    let pins : c.as_slice.result.now ≡ c.args.self.now.pins = c.as_slice.ensures ∙ ap (λ (d : Design). d.pins) c.self.view_is in
    let read : p ≡ slice_index_or c.args.self.now.pins c.args.pin.0 p = c.index-as_slice-pin.is ∙ ap (λ vs. slice_index_or vs c.args.pin.0 p) pins in
    let name : c.as_slice-3.result.now ≡ pin_name c.args.self.now 0 c.args.pin.0 =
    c.as_slice-3.ensures.value ∙ (c.reverse.ensures.items ∙ (ap reverse c.in_ok-name.ensures
    ∙ (reverse-reverse (front Printed c.as_slice-2.result.now p.place ++ bit_name p.port p.bit)
    ∙ (ap (λ ps. front Printed ps p.place ++ bit_name p.port p.bit) places ∙ pin-named c.args.self.now c.args.pin.0 p Printed flat c.requires read)))) in
    subst (λ (s : List ℕ). OnOk c.extend_from_slice.result (c.extend_from_slice.new.self ≡ c.args.into.now ++ s)) name c.extend_from_slice.ensures.ok
