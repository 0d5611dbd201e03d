use Rattle.std.proofs.Common.{◌≡◌, ◌+◌, ◌∷◌, sym, ◌∙◌, arith, drop, get_or}
use Rattle.std.proofs.lemmas.List.{drop_more}
use Rattle.text_scan.proofs.DigitLemmas.{read_on_step}
use Rattle.verilog_reader.proofs.numbers.value_up_to.Goals as goal

pub loop-digit-preserved : goal.loop-digit-preserved
loop-digit-preserved c =
    let more : drop c.loop-digit.digit-index c.args.digits.now ≡ get_or c.args.digits.now c.loop-digit.digit-index 0 ∷ drop (c.loop-digit.digit-index + 1) c.args.digits.now = drop_more _ _ 0 c.loop-digit-test.true in
    record {
      low = omega arith;
      read = (let h = rw more at c.loop-digit.invariant.read in sym (read_on_step 1000001 c.loop-digit.value _ _ _ (omega arith)) ∙ h);
    }
