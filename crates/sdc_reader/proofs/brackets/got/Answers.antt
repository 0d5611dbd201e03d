use Rattle.std.proofs.Common.{◌≡◌, ◌∷◌, false, sym, ◌∙◌, ap, rules, Ok}
use Rattle.sdc_reader.specs.Words.{is_bracket, is_option}
use Rattle.sdc_reader.specs.Brackets.{found_in, surplus}
use Rattle.sdc_reader.proofs.OpenLemmas.{plain_first}
use Rattle.sdc_reader.proofs.ListedLemmas.{got_is}
use Rattle.sdc_reader.proofs.brackets.got.Goals as goal

pub returns : goal.returns
returns c = λ f opens.
    let split : c.args.words.now ≡ c.in-Some.word.now ∷ c.in-Some.rest.now = search rules in
    let plain : is_bracket c.in-Some.word.now.kind ≡ false = sym c.is_bracket.ensures ∙ c.if-is_bracket.false in
    let option : is_option c.in-Some.word.now ≡ false = sym c.is_option.ensures ∙ c.if-is_option.false in
    let first = plain_first c.args.words.now c.in-Some.word.now c.in-Some.rest.now f split plain opens in
    let left : Ok (surplus first.rest) ≡ Ok c.in_ok-refusal.refusal = c.in_ok-refusal.ensures first.rest first.opens in
    let names : found_in c.args.kind c.in-Some.word.now ≡ c.from_vec.result = search rules in
    ap (λ finds. Ok finds) (got_is c.args.kind c.args.at c.in-Some.word.now f first.rest c.from_vec.result c.in_ok-refusal.refusal first.is option names cc)
