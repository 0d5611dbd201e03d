use Rattle.std.proofs.Common.{◌≡◌, ◌+◌, ◌∷◌, sym, ◌∙◌, rules, arith, drop, get_or}
use Rattle.std.proofs.lemmas.List.{drop_more, drop_all}
use Rattle.text_scan.proofs.DigitLemmas.{read_on_step, digits_behind}
use Rattle.line_text.proofs.NumberLemmas.{read_all}
use Rattle.line_text.proofs.wide.wide_natural.Goals as goal

pub loop-digit-preserved : goal.loop-digit-preserved
loop-digit-preserved c =
    let more : drop c.loop-digit.digit-index c.args.digits.now ≡ get_or c.args.digits.now c.loop-digit.digit-index 0 ∷ drop (c.loop-digit.digit-index + 1) c.args.digits.now = drop_more _ _ 0 c.loop-digit-test.true in
    record {
      low = search rules;
      are_digits = digits_behind (get_or c.args.digits.now c.loop-digit.digit-index 0) (drop (c.loop-digit.digit-index + 1) c.args.digits.now) _ (sym c.is_ascii_digit.ensures.value ∙ c.if-not-is_ascii_digit.false) (rw more at c.loop-digit.invariant.are_digits);
      read = (let h = rw more at c.loop-digit.invariant.read in sym (read_on_step 340282366920938463463374607431768211455 c.loop-digit.value _ _ _ (omega arith)) ∙ h);
    }

pub returns : goal.returns
returns c =
    let none = drop_all c.loop-digit.digit-index c.args.digits.now c.loop-digit-test.false in
    read_all 340282366920938463463374607431768211455 c.loop-digit.value c.args.digits.now (sym c.is_empty.ensures ∙ c.if-is_empty.false) (sym (rw none at c.loop-digit.invariant.are_digits)) c.loop-digit.invariant.low (rw none at c.loop-digit.invariant.read)
