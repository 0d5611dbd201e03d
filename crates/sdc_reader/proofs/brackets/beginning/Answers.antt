use Rattle.std.proofs.Common.{◌≡◌, ◌∷◌, false, None, sym, ◌∙◌, refl, rules}
use Rattle.sdc_reader.specs.Words.{is_bracket}
use Rattle.sdc_reader.specs.Brackets.{object_command}
use Rattle.sdc_reader.proofs.OpenLemmas.{plain_first}
use Rattle.sdc_reader.proofs.ListedLemmas.{removed_first, misnamed_inside}
use Rattle.sdc_reader.proofs.brackets.beginning.Goals as goal

pub returns-in_ok-unknown_command-in-None-clause-head : goal.returns-in_ok-unknown_command-in-None-clause-head
returns-in_ok-unknown_command-in-None-clause-head c = λ f opens.
    let w = c.remove-first.result in
    let split : c.args.words.items ≡ w ∷ c.remove-first.new.self.items = removed_first _ _ w (search rules) c.remove-first.ensures.value c.remove-first.ensures.items in
    let plain : is_bracket w.kind ≡ false = sym c.is_bracket.ensures ∙ c.if-is_bracket.false in
    let first = plain_first c.args.words.items w c.remove-first.new.self.items f split plain opens in
    let none : object_command w.text ≡ None = (rw c.as_slice.ensures at (sym c.object_command.ensures)) ∙ c.in-None.is in
    misnamed_inside w f first.rest c.in_ok-unknown_command-in-None.field-0 first.is none c.in_ok-unknown_command-in-None.ensures

pub returns-in-Some-clause-head : goal.returns-in-Some-clause-head
returns-in-Some-clause-head c = λ f opens.
    let w = c.remove-first.result in
    let split : c.args.words.items ≡ w ∷ c.remove-first.new.self.items = removed_first _ _ w (search rules) c.remove-first.ensures.value c.remove-first.ensures.items in
    let plain : is_bracket w.kind ≡ false = sym c.is_bracket.ensures ∙ c.if-is_bracket.false in
    let first = plain_first c.args.words.items w c.remove-first.new.self.items f split plain opens in
    record {
      first = w;
      rest = first.rest;
      is = first.is;
      command_is = (rw c.as_slice.ensures at (sym c.object_command.ensures)) ∙ c.in-Some.is;
      at_is = refl;
      opens = rw c.from_vec.ensures first.opens;
    }
