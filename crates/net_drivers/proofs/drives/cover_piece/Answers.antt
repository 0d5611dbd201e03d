use Rattle.std.proofs.Common.{◌+◌, ap}
use Rattle.net_drivers.proofs.ApartLaws.{bits_apart}
use Rattle.net_drivers.proofs.FillLaws.{Stands-span, Stands-piece_none}
use Rattle.net_drivers.proofs.drives.cover_piece.Goals as goal

pub returns-in-Some : goal.returns-in-Some
returns-in-Some c =
    Stands-span c.args.table.now.module.now c.args.piece.now c.in-Some.span c.min-low.result (c.max-high.result + 1) c.args.rows.now c.cover.new.rows (bits_apart c.args.table.now.module.now c.args.table.now.apart) c.in-Some.ensures c.requires.rows
    c.min-low.ensures (ap (λ h. h + 1) c.max-high.ensures) c.cover.ensures

pub returns-in_default : goal.returns-in_default
returns-in_default c = Stands-piece_none c.args.table.now.module.now c.args.piece.now c.args.rows.now c.requires.rows c.in_default.ensures
