use Rattle.net_drivers.proofs.AppendLaws.{Appends-both, Appends-same, expression-next}
use Rattle.net_drivers.proofs.numbers.put_pieces.Goals as goal

pub loop-k-preserved : goal.loop-k-preserved
loop-k-preserved c =
    Appends-same (expression-next c.args.table.now.module.now c.args.pieces.now c.loop-k.k c.index-pieces-k.result c.loop-k-test.true c.index-pieces-k.is) (Appends-both c.loop-k.invariant c.in_ok-put_piece.ensures)
