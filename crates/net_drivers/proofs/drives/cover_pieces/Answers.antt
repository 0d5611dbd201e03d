use Rattle.module_nets.specs.Nets.{all_bits}
use Rattle.net_drivers.proofs.AppendLaws.{expression-next}
use Rattle.net_drivers.proofs.FillLaws.{Stands-both, Stands-same, Stands-constants}
use Rattle.net_drivers.proofs.drives.cover_pieces.Goals as goal

pub loop-piece-preserved : goal.loop-piece-preserved
loop-piece-preserved c =
    Stands-same (expression-next c.args.table.now.module.now c.args.pieces.now c.loop-piece.piece-index c.piece-item.result c.loop-piece-test.true c.piece-item.is)
    (Stands-both c.loop-piece.invariant c.cover_piece.ensures)

pub loop-piece-init : goal.loop-piece-init
loop-piece-init c = Stands-constants (all_bits c.args.table.now.module.now) 0 c.args.rows.now c.requires.rows
