use Rattle.std.proofs.Common.{refl}
use Rattle.module_nets.proofs.JudgeSteps.{fits_open, fits_joined}
use Rattle.module_nets.proofs.judging.fits.Goals as goal

pub returns-then-is_empty : goal.returns-then-is_empty
returns-then-is_empty c = fits_open c.args.nets.now.«module».now c.args.port.now c.args.pieces.now c.is_empty.result c.is_empty.ensures c.if-is_empty.true

pub returns : goal.returns
returns c =
    fits_joined c.args.nets.now.«module».now c.args.port.now c.args.pieces.now c.is_empty.result _ c.width.result c.range_width.result c.is_empty.ensures c.if-is_empty.false refl c.width.ensures c.range_width.ensures
