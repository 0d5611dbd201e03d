use Rattle.std.proofs.Common.{sym, ◌∙◌, rules}
use Rattle.std.proofs.lemmas.List.{nil_from_length}
use Rattle.line_text.proofs.PartsLemmas.{rows_kept, rows_passed, rows_none}
use Rattle.line_text.proofs.parts.next_row.Goals as goal

pub returns-then-is_row-clause-parts : goal.returns-then-is_row-clause-parts
returns-then-is_row-clause-parts c =
    sym c.loop-rest.invariant.same ∙ rows_kept _ _ _ c.split_first.ensures.cut (sym c.is_row.ensures ∙ c.if-is_row.true)

pub loop-rest-preserved : goal.loop-rest-preserved
loop-rest-preserved c = record {
  same = sym (rows_passed _ _ _ c.split_first.ensures.cut (sym c.is_row.ensures ∙ c.if-is_row.false)) ∙ c.loop-rest.invariant.same;
  at = search rules;
  stop_is = search rules;
  shorter = search rules;
}

pub returns-clause-parts : goal.returns-clause-parts
returns-clause-parts c = sym c.loop-rest.invariant.same ∙ rows_none _ (nil_from_length _ (search rules))
