use Rattle.std.proofs.Common.{◌+◌, ◌++◌, filter, length, drop, ap, ◌∙◌, arith}
use Rattle.std.proofs.lemmas.List.{drop_more}
use Rattle.number_marks.specs.Marks.{is_marked}
use Rattle.number_marks.proofs.MarkLaws.{marked_more, all_more}
use Rattle.number_marks.proofs.marks.marked.Goals as goal

pub loop-number-preserved : goal.loop-number-preserved
loop-number-preserved c =
    let numbers = c.args.numbers.now in
    let i = c.loop-number.number-index in
    let p = is_marked c.args.marks.now in
    let step = drop_more numbers i 0 c.loop-number-test.true in (
      marked_more p numbers c.loop-number.found.items c.put_if.new.out.items (drop (i + 1) numbers) _ c.is_marked.result c.is_marked.ensures c.in_ok-put_if.ensures
          (c.loop-number.invariant.0 ∙ ap (λ xs. c.loop-number.found.items ++ filter p xs) step),
      all_more (length c.args.marks.now) numbers (drop i numbers) (drop (i + 1) numbers) _ step (omega (arith, c.if-number-marks.false)) c.loop-number.invariant.1,
    )
