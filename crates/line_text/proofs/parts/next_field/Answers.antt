use Rattle.std.proofs.Common.{sym, ◌∙◌, rules}
use Rattle.std.proofs.lemmas.List.{nil_from_length}
use Rattle.line_text.proofs.PartsLemmas.{fields_kept, fields_passed, fields_none}
use Rattle.line_text.proofs.parts.next_field.Goals as goal

pub returns-then-not-is_empty-clause-parts : goal.returns-then-not-is_empty-clause-parts
returns-then-not-is_empty-clause-parts c =
    sym c.loop-rest.invariant.same ∙ fields_kept _ _ _ c.split_first.ensures.cut (sym c.is_empty-in-loop-rest.ensures ∙ c.if-not-is_empty.true)

pub loop-rest-preserved : goal.loop-rest-preserved
loop-rest-preserved c = record {
  same = sym (fields_passed _ _ _ c.split_first.ensures.cut (sym c.is_empty-in-loop-rest.ensures ∙ c.if-not-is_empty.false)) ∙ c.loop-rest.invariant.same;
  at = search rules;
  stop_is = search rules;
}

pub returns-clause-parts : goal.returns-clause-parts
returns-clause-parts c = sym c.loop-rest.invariant.same ∙ fields_none _ (nil_from_length _ (search rules))
