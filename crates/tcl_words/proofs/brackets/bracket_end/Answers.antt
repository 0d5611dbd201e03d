use Rattle.std.proofs.Common.{◌≡◌, ◌<◌, true, arith, rules}
use Rattle.tcl_words.specs.Scanning.{left, ends_by, is_behind}
use Rattle.tcl_words.specs.declared.characters.Scope.TheVariants.{Brackets}
use Rattle.tcl_words.proofs.ClosedLemmas.{turn_opens, turn_passes, turn_closes, turn_last}
use Rattle.tcl_words.proofs.brackets.bracket_end.Goals as goal

pub returns-then-depth-eq0-clause-closed : goal.returns-then-depth-eq0-clause-closed
returns-then-depth-eq0-clause-closed c =
    c.loop-part.invariant.enough _ (turn_last c.loop-part.depth _ _ c.in-Some.part c.in-Some.ensures.first c.in-Closes.is (omega arith))

pub loop-part-preserved-in-Opens : goal.loop-part-preserved-in-Opens
loop-part-preserved-in-Opens c =
    let turned = turn_opens c.loop-part.depth _ _ c.in-Some.part c.in-Some.ensures.first c.in-Opens.is in
    record {
      enough = λ rest closed. c.loop-part.invariant.enough rest (turned.enough rest closed);
      needed = λ rest closed. turned.needed rest (c.loop-part.invariant.needed rest closed);
      from = search rules;
      within = search rules;
      depth = search rules;
    }

pub loop-part-preserved-else-not-ends_word : goal.loop-part-preserved-else-not-ends_word
loop-part-preserved-else-not-ends_word c =
    let some : 0 < c.loop-part.depth = omega arith in
    let ends : ends_by (is_behind Brackets) (left c.args.text.now c.in-Some.behind) ≡ true = search rules in
    let turned = turn_closes c.loop-part.depth _ _ c.in-Some.part c.in-Some.ensures.first c.in-Closes.is some ends in
    record {
      enough = λ rest closed. c.loop-part.invariant.enough rest (turned.enough rest closed);
      needed = λ rest closed. turned.needed rest (c.loop-part.invariant.needed rest closed);
      from = search rules;
      within = search rules;
      depth = search rules;
    }

pub loop-part-preserved : goal.loop-part-preserved
loop-part-preserved c =
    let turned = turn_passes c.loop-part.depth _ _ c.in-Some.part c.in-Some.ensures.first c.in-Whole.is in
    record {
      enough = λ rest closed. c.loop-part.invariant.enough rest (turned.enough rest closed);
      needed = λ rest closed. turned.needed rest (c.loop-part.invariant.needed rest closed);
      from = search rules;
      within = search rules;
      depth = search rules;
    }
