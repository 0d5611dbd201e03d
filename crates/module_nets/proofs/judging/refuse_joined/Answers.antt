use Rattle.std.proofs.Common.{◌∙◌, ap, sym, Some}
use Rattle.std.specs.Option.{option_or}
use Rattle.bud_design.specs.Names.{printed}
use Rattle.module_nets.specs.Entering.{select_fault, port_width_fault}
use Rattle.module_nets.specs.Judging.{entry_at}
use Rattle.module_nets.specs.declared.faults.ElabFault.TheVariants.{Width}
use Rattle.module_nets.proofs.Refusing.{both_none}
use Rattle.module_nets.proofs.JudgeSteps.{fits_so, fits_not}
use Rattle.module_nets.proofs.judging.refuse_joined.Goals as goal

pub returns-then-fits : goal.returns-then-fits
returns-then-fits c =
    let e = entry_at c.args.nets.now.«module».now c.args.path.now in
    both_none (select_fault e c.args.pieces.now) (port_width_fault e c.args.port.now c.args.pieces.now) c.in_ok-refuse_select.ensures
    (fits_so e c.args.port.now c.args.pieces.now c.fits.result c.fits.ensures c.if-fits.true)

pub returns : goal.returns
returns c =
    let e = entry_at c.args.nets.now.«module».now c.args.path.now in
    ap (λ o. option_or o (port_width_fault e c.args.port.now c.args.pieces.now)) c.in_ok-refuse_select.ensures
    ∙ (fits_not e c.args.port.now c.args.pieces.now c.fits.result c.fits.ensures c.if-fits.false
    ∙ ap (λ t. Some (Width t)) (sym (c.in_ok-printed.ensures.printed ∙ ap printed c.as_slice.ensures)))
