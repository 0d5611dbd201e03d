use Rattle.std.proofs.Common.{reverse, refl, sym, ◌∙◌}
use Rattle.sdc_reader.proofs.OpenLemmas.{plain_first}
use Rattle.sdc_reader.proofs.ListedLemmas.{turn_option, turn_plain}
use Rattle.sdc_reader.proofs.brackets.list_word.Goals as goal

pub returns-then-is_option-clause-turn : goal.returns-then-is_option-clause-turn
returns-then-is_option-clause-turn c = λ f opens.
    let w = c.args.word.now in
    let left = reverse c.args.pending.now.items in
    let plain = plain_first _ w left f refl (sym c.is_bracket.ensures ∙ c.if-is_bracket.false) opens in
    turn_option c.args.found.now.items left w f plain.rest c.in_ok-unknown_option.field-0 plain.is (sym c.is_option.ensures ∙ c.if-is_option.true) c.in_ok-unknown_option.ensures

pub returns-clause-turn : goal.returns-clause-turn
returns-clause-turn c = λ f opens.
    let w = c.args.word.now in
    let left = reverse c.args.pending.now.items in
    let plain = plain_first _ w left f refl (sym c.is_bracket.ensures ∙ c.if-is_bracket.false) opens in
    turn_plain c.args.found.now.items c.find_names.new.found.items left w f plain.rest plain.is (sym c.is_option.ensures ∙ c.if-is_option.false) plain.opens c.in_ok-find_names.ensures
