use Rattle.std.proofs.Common.{[], ◌∷◌, decimal, sym, ◌∙◌, ap}
use Rattle.flat_design.specs.Fronts.{brackets}
use Rattle.name_tables.specs.Keys.{key_step, key_from}
use Rattle.name_tables.proofs.KeyLaws.{key_from-append}
use Rattle.flat_design.proofs.keys.brackets_key.Goals as goal

pub returns-clause-key : goal.returns-clause-key
returns-clause-key c =
    let open_key = key_step c.args.key 91 in
    let digits = c.as_bytes.ensures.value ∙ c.format.ensures.text in
    let number = c.key_behind-key-2.ensures ∙ (ap (λ k. key_from k c.as_bytes.result.now) c.key_behind-key.ensures ∙ ap (key_from open_key) digits) in
    c.key_behind.ensures
    ∙ (ap (λ k. key_from k (93 ∷ [])) number
    ∙ (sym (key_from-append open_key (decimal c.in-Some.number) (93 ∷ []))
    ∙ ap (λ bit. key_from c.args.key (brackets bit)) (sym c.in-Some.is)))
