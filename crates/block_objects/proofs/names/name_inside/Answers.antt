use Rattle.std.proofs.Common.{◌++◌, length, drop, ap, ◌∙◌, arith}
use Rattle.std.specs.Prelude.{List, ℕ}
use Rattle.std.proofs.lemmas.List.{length-append}
use Rattle.std.proofs.lemmas.Result.{IfOk-weaker}
use Rattle.bud_design.specs.Designs.{pin_name}
use Rattle.block_objects.proofs.Fronts.{name-behind, front-within}
use Rattle.block_objects.proofs.names.name_inside.Goals as goal

pub behind-requires : goal.behind-requires
behind-requires c =
    let names = c.args.names.now in
    let whole = c.as_slice.ensures ∙ (c.in_ok-name_of.ensures.ok ∙ ap (λ text. text ++ pin_name names.flat.now 0 c.args.pin) c.new-name.ensures) in
    let parts = front-within names.flat.now c.requires.design.is_design names.block c.requires.names.block c.args.pin names.front.now c.requires.pin.within c.requires.pin.inside c.requires.names.front in
    let long = ap (λ (text : List ℕ). length text) (whole ∙ parts) in
    omega (arith, long, length-append names.front.now (pin_name names.flat.now names.block c.args.pin))

pub returns : goal.returns
returns c =
    let names = c.args.names.now in
    let whole = c.as_slice.ensures ∙ (c.in_ok-name_of.ensures.ok ∙ ap (λ text. text ++ pin_name names.flat.now 0 c.args.pin) c.new-name.ensures) in
    let rest = name-behind names.flat.now c.requires.design.is_design names.block c.requires.names.block c.args.pin names.front.now c.requires.pin.within c.requires.pin.inside c.requires.names.front in
    IfOk-weaker c.from_slice.result _ _ (λ text same. same ∙ (c.behind.ensures ∙ (ap (λ (bytes : List ℕ). drop (length names.front.now) bytes) whole ∙ rest))) c.from_slice.ensures
