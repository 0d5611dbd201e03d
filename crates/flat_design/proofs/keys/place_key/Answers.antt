use Rattle.std.proofs.Common.{sym, ◌∙◌, ap, arith}
use Rattle.bud_design.specs.Designs.{place_name}
use Rattle.bud_design.specs.Names.{plain}
use Rattle.name_tables.specs.Keys.{key_from, key_of}
use Rattle.flat_design.specs.Keyed.{front_key}
use Rattle.flat_design.proofs.FrontLaws.{is_below, is_top}
use Rattle.flat_design.proofs.KeyLaws.{place-keyed}
use Rattle.flat_design.proofs.keys.place_key.Goals as goal

pub returns-in_default : goal.returns-in_default
returns-in_default c =
    let top = is_top c.args.places.now c.requires.places c.args.place c.requires.place (sym c.above.ensures ∙ c.in_default.is) in
    ap (λ p. key_of (plain (place_name c.args.places.now 0 p))) (sym top)

pub front_key-requires : goal.front_key-requires
front_key-requires c =
    let less = is_below c.args.places.now c.requires.places c.args.place c.in-Some.parent c.requires.place (sym c.above.ensures ∙ c.in-Some.is) in
    omega (arith, less, c.requires.keys.all)

pub returns : goal.returns
returns c =
    let keyed = place-keyed c.args.places.now c.requires.places c.args.keys.now c.args.place c.in-Some.parent c.requires.keys c.requires.place (sym c.above.ensures ∙ c.in-Some.is) in
    c.plain_key_behind.ensures
    ∙ (ap (λ k. key_from k (plain c.own_name.result.now)) c.front_key.ensures
    ∙ (ap (λ s. key_from (front_key c.args.keys.now c.in-Some.parent) (plain s)) c.own_name.ensures ∙ keyed))
