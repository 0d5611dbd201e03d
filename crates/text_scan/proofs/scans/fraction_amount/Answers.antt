use Rattle.std.proofs.Common.{◌≡◌, ◌+◌, ◌-◌, ◌*◌, ◌∷◌, length, arith, drop, get_or, ap}
use Rattle.std.proofs.lemmas.List.{drop_more}
use Rattle.text_scan.specs.Digits.{value_of}
use Rattle.text_scan.proofs.DigitLemmas.{digit_in, parts_more, parts_low}
use Rattle.text_scan.proofs.scans.fraction_amount.Goals as goal

pub overflow_sub-digits : goal.overflow_sub-digits
overflow_sub-digits c = (digit_in c.args.digits.now (c.loop-place.place - 1) c.requires.digits (omega arith)).0

pub loop-place-preserved : goal.loop-place-preserved
loop-place-preserved c =
    let ds = c.args.digits.now in
    let place = c.loop-place.place in
    let digit = get_or ds (place - 1) 0 in
    let next : place - 1 + 1 ≡ place = omega arith in
    let more : drop (place - 1) ds ≡ digit ∷ drop place ds = rw next at (drop_more ds (place - 1) 0 (omega arith)) in
    let sum = ap (λ n. c.args.unit * n + c.loop-place.parts) c.from.ensures in
    let high = (digit_in ds (place - 1) c.requires.digits (omega arith)).1 in
    record {
      within = omega arith;
      parts_are =
          rw more (parts_more c.args.unit (digit - 48) (c.args.unit * c.from.result + c.loop-place.parts) c.loop-place.parts (length (drop place ds)) (value_of (drop place ds)) c.loop-place.inexact c.loop-place.invariant.parts_are sum);
      low = parts_low c.args.unit (digit - 48) (c.args.unit * c.from.result + c.loop-place.parts) c.loop-place.parts (omega (arith, high)) c.loop-place.invariant.low sum;
    }
