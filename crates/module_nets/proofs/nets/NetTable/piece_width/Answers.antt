use Rattle.module_nets.proofs.WidthLaws.{net_width, part_width}
use Rattle.module_nets.proofs.nets.NetTable.piece_width.Goals as goal

pub returns-in-Net-clause-width : goal.returns-in-Net-clause-width
returns-in-Net-clause-width c = net_width c.args.self.now.«module».now c.args.piece.now c.in-Net.name c.as_slice.result.now c.range_of.result c.range_width.result c.in-Net.is c.as_slice.ensures c.range_of.ensures c.range_width.ensures

pub returns-in-Part-clause-width : goal.returns-in-Part-clause-width
returns-in-Part-clause-width c =
    part_width c.args.self.now.«module».now c.args.piece.now c.in-Part.field-0 c.in-Part.left c.in-Part.right c.range_width-in-Part.result c.in-Part.is c.range_width-in-Part.ensures
