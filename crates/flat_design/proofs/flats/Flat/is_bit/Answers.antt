use Rattle.std.proofs.Common.{◌≡◌, ◌++◌, subst, sym, ◌∙◌, ap}
use Rattle.bud_design.specs.declared.designs.Pin.{Pin}
use Rattle.bud_design.specs.DesignRules.{IsPrintedForm}
use Rattle.std.specs.Prelude.{slice_index_or}
use Rattle.std.specs.Str.{bytes_eq}
use Rattle.bud_design.specs.Designs.{Design}
use Rattle.bud_design.specs.Names.{bit_name}
use Rattle.flat_design.specs.Flats.{IsFlat}
use Rattle.flat_design.specs.Fronts.{formed, front}
use Rattle.flat_design.proofs.FlatLaws.{pin-named}
use Rattle.flat_design.proofs.flats.Flat.is_bit.Goals as goal

pub returns : goal.returns
returns c =
    let flat = subst IsFlat c.self.view_is c.self.invariant.flat in
    let p = c.index-as_slice-number.result in
    let places : c.as_slice-2.result.now ≡ c.args.self.now.places = c.as_slice-2.ensures ∙ ap (λ (d : Design). d.places) c.self.view_is in
    let pins : c.as_slice.result.now ≡ c.args.self.now.pins = c.as_slice.ensures ∙ ap (λ (d : Design). d.pins) c.self.view_is in
    let read : p ≡ slice_index_or c.args.self.now.pins c.args.number p = c.index-as_slice-number.is ∙ ap (λ vs. slice_index_or vs c.args.number p) pins in
    c.is_pin.ensures
    ∙ (ap (λ ps. bytes_eq (front c.args.form ps p.place ++ formed c.args.form (bit_name p.port p.bit)) c.args.name.now) places
    ∙ ap (λ s. bytes_eq s c.args.name.now) (pin-named c.args.self.now c.args.number p c.args.form flat c.requires read))

pub is_pin-requires-clause-port : goal.is_pin-requires-clause-port
is_pin-requires-clause-port c =
    let flat = subst IsFlat c.self.view_is c.self.invariant.flat in
    let p = c.index-as_slice-number.result in
    let pins : c.as_slice.result.now ≡ c.args.self.now.pins = c.as_slice.ensures ∙ ap (λ (d : Design). d.pins) c.self.view_is in
    let read : p ≡ slice_index_or c.args.self.now.pins c.args.number p = c.index-as_slice-number.is ∙ ap (λ vs. slice_index_or vs c.args.number p) pins in
    subst (λ (v : Pin). IsPrintedForm v.port) (sym read) (flat.names.ports c.args.number p c.requires)
