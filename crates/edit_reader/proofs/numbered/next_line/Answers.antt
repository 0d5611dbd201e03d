use Rattle.std.proofs.Common.{sym, ◌∙◌, rules}
use Rattle.std.proofs.lemmas.List.{nil_from_length}
use Rattle.edit_reader.proofs.NumberedLemmas.{lines_kept, lines_passed, lines_none}
use Rattle.edit_reader.proofs.numbered.next_line.Goals as goal

pub returns-then-is_row-clause-lines : goal.returns-then-is_row-clause-lines
returns-then-is_row-clause-lines c =
    sym c.loop-rest.invariant.same ∙ lines_kept _ _ _ _ c.split_line.ensures.cut (sym c.is_row.ensures ∙ c.if-is_row.true)

pub loop-rest-preserved : goal.loop-rest-preserved
loop-rest-preserved c = record {
  same = sym (lines_passed _ _ _ _ c.split_line.ensures.cut (sym c.is_row.ensures ∙ c.if-is_row.false)) ∙ c.loop-rest.invariant.same;
  at = search rules;
  few = search rules;
  stop_is = search rules;
  shorter = search rules;
}

pub returns-clause-lines : goal.returns-clause-lines
returns-clause-lines c = sym c.loop-rest.invariant.same ∙ lines_none _ _ (nil_from_length _ (search rules))
