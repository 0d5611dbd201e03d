use Rattle.std.proofs.Common.{◌≡◌, ◌∷◌, [], ◌++◌, sym, ◌∙◌, refl, rules}
use Rattle.line_text.proofs.CountLemmas.{counts_turn, counts_fails, counts_ends, fields_fewer}
use Rattle.line_text.proofs.names.counts.Goals as goal

pub returns-in_default-count-clause-read : goal.returns-in_default-count-clause-read
returns-in_default-count-clause-read c =
    sym c.loop-field.invariant.same ∙ counts_fails _ _ _ _ _ _ _ c.in-Some.ensures.parts c.in_default-count.ensures.read

pub loop-field-smaller : goal.loop-field-smaller
loop-field-smaller c = fields_fewer _ _ _ _ _ _ _ c.in-Some-count.ensures.read

pub loop-field-preserved : goal.loop-field-preserved
loop-field-preserved c =
    let pushed : c.push.new.self.items ≡ c.loop-field.numbers.items ++ c.in-Some-count.number ∷ [] = search rules in
    record {
      same = rw pushed (sym (counts_turn _ _ c.loop-field.numbers.items _ _ _ _ _ c.in-Some-count.ensures.read) ∙ c.loop-field.invariant.same);
      order = search rules;
      stop_stays = search rules;
    }

pub returns-clause-read : goal.returns-clause-read
returns-clause-read c =
    sym c.loop-field.invariant.same ∙ counts_ends _ _ _ _ _ c.in_default.ensures.parts ∙ rw c.from_vec.ensures refl
