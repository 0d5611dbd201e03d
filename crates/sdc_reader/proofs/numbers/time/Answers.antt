use Rattle.std.proofs.Common.{w64, sym, ◌∙◌, arith}
use Rattle.std.proofs.lemmas.Int.{ints, to_z-of_z}
use Rattle.sdc_reader.proofs.NumberLemmas.{time_read, time_far, time_none}
use Rattle.sdc_reader.proofs.numbers.time.Goals as goal

pub returns-in-Ok : goal.returns-in-Ok
returns-in-Ok c =
    let decimal = sym c.is_decimal.ensures ∙ c.if-not-is_decimal.false in
    let answer = rw c.new-cursor.ensures at c.in-Ok.ensures.answer in
    let small = answer.1.2 in
    rw (to_z-of_z w64 c.in-Ok.amount (omega (arith, ints, small.low, small.high))) (time_read _ _ _ _ _ _ decimal answer)

pub returns-in-Err-OutOfRange : goal.returns-in-Err-OutOfRange
returns-in-Err-OutOfRange c =
    let decimal = sym c.is_decimal.ensures ∙ c.if-not-is_decimal.false in
    time_far _ _ _ _ _ decimal (rw c.new-cursor.ensures at (rw c.in-Err-OutOfRange.field-0-is at c.in-Err-OutOfRange.ensures.answer))

pub returns-in-Err-NotNumber : goal.returns-in-Err-NotNumber
returns-in-Err-NotNumber c =
    let decimal = sym c.is_decimal.ensures ∙ c.if-not-is_decimal.false in
    absurd (time_none c.args.unit c.args.round _ _ decimal (rw c.new-cursor.ensures at (rw c.in-Err-NotNumber.field-0-is at c.in-Err-NotNumber.ensures.answer)))
