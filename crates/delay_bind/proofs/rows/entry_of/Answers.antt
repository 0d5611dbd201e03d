use Rattle.std.proofs.lemmas.Result.{err_from_is_err_and}
use Rattle.delay_bind.proofs.NameFaults.{IsRowAnswer-named}
use Rattle.delay_bind.proofs.RowLaws.{IsRowAnswer-apart, IsAcceptedRow-joined}
use Rattle.delay_bind.proofs.rows.entry_of.Goals as goal

pub returns-in_err-entry : goal.returns-in_err-entry
returns-in_err-entry c =
    let p = err_from_is_err_and c.from_residual.result c.from_residual.ensures.1 in
    rw (p.1, p.2) (IsRowAnswer-named c.args.flat.now c.args.row.now c.in_err-entry.field-0.0 c.in_err-entry.ensures)

pub returns-then-not-is_joined : goal.returns-then-not-is_joined
returns-then-not-is_joined c =
    IsRowAnswer-apart c.args.flat.now c.wires-wires.ensures.kept.is_design _ c.requires.drives c.args.row.now c.in_ok-entry.entry c.is_joined.result c.apart.result c.in_ok-entry.ensures.0 c.in_ok-entry.ensures.1 c.is_joined.ensures
    c.if-not-is_joined.true c.apart.ensures

pub returns : goal.returns
returns c = (
  IsAcceptedRow-joined c.args.flat.now c.wires-wires.ensures.kept.is_design _ c.requires.drives c.args.row.now c.in_ok-entry.entry c.is_joined.result c.in_ok-entry.ensures.0 c.in_ok-entry.ensures.1 c.is_joined.ensures
      c.if-not-is_joined.false,
  c.in_ok-entry.ensures.1,
)
