use Rattle.std.proofs.Common.{sym, ◌∙◌, ap}
use Rattle.bud_design.specs.Names.{plain}
use Rattle.flat_design.specs.Fronts.{brackets}
use Rattle.flat_design.specs.Keyed.{front_key}
use Rattle.name_tables.specs.Keys.{key_from}
use Rattle.name_tables.proofs.KeyLaws.{key_from-append}
use Rattle.flat_design.proofs.keys.pin_key.Goals as goal

pub returns-clause-key : goal.returns-clause-key
returns-clause-key c =
    let pin = c.args.pin.now in
    let front = front_key c.args.keys.now pin.place in
    let port = c.plain_key_behind-key.ensures ∙ (ap (λ k. key_from k (plain c.as_slice.result.now)) c.front_key.ensures ∙ ap (λ s. key_from front (plain s)) c.as_slice.ensures) in
    c.brackets_key.ensures.key ∙ (ap (λ k. key_from k (brackets pin.bit)) port ∙ sym (key_from-append front (plain pin.port) (brackets pin.bit)))
