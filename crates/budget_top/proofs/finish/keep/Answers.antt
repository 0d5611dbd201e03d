use Rattle.std.proofs.Common.{arith}
use Rattle.budget_top.proofs.WritingLaws.{keeps_on, keeps_stopped}
use Rattle.budget_top.proofs.finish.keep.Goals as goal

pub returns-in-Err-clause-kept : goal.returns-in-Err-clause-kept
returns-in-Err-clause-kept g c =
    let answer = rw c.in-Err.is at c.write.ensures.answer in
    keeps_stopped (g.S.Shelf.files c.args.shelf.now) (g.S.Shelf.files c.loop-write.shelf) (g.S.Shelf.files c.write.new.self)
    (g.S.Shelf.faults c.args.shelf.now) (g.S.Shelf.faults c.loop-write.shelf) (g.S.Shelf.faults c.write.new.self)
    c.args.writes.now c.loop-write.write-index c.write-item.result c.as_str-name.result.now c.as_slice.result.now c.in-Err.fault c.stopped.result
    c.loop-write-test.true c.write-item.is c.as_str-name.ensures.value c.loop-write.invariant.0 c.loop-write.invariant.1 answer c.stopped.ensures

pub loop-write-preserved : goal.loop-write-preserved
loop-write-preserved g c =
    let answer = rw c.in-Ok.is at c.write.ensures.answer in (
      keeps_on (g.S.Shelf.files c.args.shelf.now) (g.S.Shelf.files c.loop-write.shelf) (g.S.Shelf.files c.write.new.self)
          c.args.writes.now c.loop-write.write-index c.write-item.result c.as_str-name.result.now c.as_slice.result.now
          c.loop-write-test.true c.write-item.is c.as_str-name.ensures.value c.as_slice.ensures c.loop-write.invariant.0 answer,
      omega (arith, c.write.ensures.count, c.loop-write.invariant.1),
    )
