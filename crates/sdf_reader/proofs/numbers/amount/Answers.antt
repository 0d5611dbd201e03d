use Rattle.std.proofs.Common.{arith}
use Rattle.std.proofs.lemmas.Int.{ints}
use Rattle.sdf_reader.proofs.NumberLemmas.{amount_found, amount_past, amount_missing}
use Rattle.sdf_reader.proofs.numbers.amount.Goals as goal

pub returns-in-Ok : goal.returns-in-Ok
returns-in-Ok c =
    let small = c.in-Ok.ensures.answer.1.2 in
    amount_found c.args.unit c.args.word.now _ _ _ _ c.new-cursor.ensures c.in-Ok.ensures.answer (omega (arith, ints, small.low, small.high))

pub returns-in-Err-OutOfRange : goal.returns-in-Err-OutOfRange
returns-in-Err-OutOfRange c = amount_past c.args.unit c.args.word.now _ _ c.new-cursor.ensures (rw c.in-Err-OutOfRange.field-0-is at c.in-Err-OutOfRange.ensures.answer)

pub returns-in-Err-NotNumber : goal.returns-in-Err-NotNumber
returns-in-Err-NotNumber c = amount_missing c.args.unit c.args.word.now _ _ c.new-cursor.ensures c.requires.number (rw c.in-Err-NotNumber.field-0-is at c.in-Err-NotNumber.ensures.answer)
