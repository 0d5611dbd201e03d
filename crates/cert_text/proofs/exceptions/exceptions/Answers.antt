use Rattle.std.proofs.Common.{◌≡◌, ◌∷◌, [], ◌++◌, sym, ◌∙◌, refl, rules}
use Rattle.cert_text.proofs.ExceptionLaws.{exceptions_turn, exceptions_fails, exceptions_end, fewer}
use Rattle.cert_text.proofs.exceptions.exceptions.Goals as goal

pub loop-field-preserved : goal.loop-field-preserved
loop-field-preserved c =
    let pushed : c.push.new.self.items ≡ c.loop-field.list.items ++ c.in-Some-exception.found ∷ [] = search rules in
    record {
      same = rw pushed (sym (exceptions_turn c.loop-field.list.items _ _ _ _ _ _ c.in-Some.ensures.parts c.in-Some-exception.ensures.read) ∙ c.loop-field.invariant.same);
      passed = search rules;
      order = search rules;
      stop_stays = search rules;
    }

pub loop-field-smaller : goal.loop-field-smaller
loop-field-smaller c = fewer _ _ _ c.in-Some.ensures.parts

pub returns-clause-read : goal.returns-clause-read
returns-clause-read c =
    sym c.loop-field.invariant.same ∙ exceptions_end _ _ _ c.in_default.ensures.parts ∙ rw c.from_vec.ensures refl

pub returns-in_default-exception-clause-read : goal.returns-in_default-exception-clause-read
returns-in_default-exception-clause-read c =
    sym c.loop-field.invariant.same ∙ exceptions_fails _ _ _ _ _ c.in-Some.ensures.parts c.in_default-exception.ensures.read
