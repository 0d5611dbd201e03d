use Rattle.std.proofs.Common.{◌≡◌, ◌+◌, ◌∷◌, sym, ◌∙◌, rules, arith, drop, get_or}
use Rattle.std.specs.Char.{is_ascii_digit}
use Rattle.std.specs.Str.{all_ascii_digits}
use Rattle.std.proofs.lemmas.Bool.{and_parts}
use Rattle.std.proofs.lemmas.List.{drop_more}
use Rattle.text_scan.proofs.DigitLemmas.{read_on_step}
use Rattle.text_scan.proofs.scans.whole_amount.Goals as goal

pub loop-digit-preserved : goal.loop-digit-preserved
loop-digit-preserved c =
    let digit = get_or c.args.digits.now c.loop-digit.digit-index 0 in
    let rest = drop (c.loop-digit.digit-index + 1) c.args.digits.now in
    let more : drop c.loop-digit.digit-index c.args.digits.now ≡ digit ∷ rest = drop_more _ _ 0 c.loop-digit-test.true in
    record {
      low = search rules;
      are_digits = (and_parts (is_ascii_digit digit) (all_ascii_digits rest) (rw more at c.loop-digit.invariant.are_digits)).1;
      read = sym (read_on_step 1000000001 c.loop-digit.value _ digit rest (omega arith)) ∙ rw more at c.loop-digit.invariant.read;
    }
