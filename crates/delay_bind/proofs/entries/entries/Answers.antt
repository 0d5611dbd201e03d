use Rattle.std.proofs.Common.{◌≡◌, ◌∙◌, sym}
use Rattle.std.proofs.lemmas.Result.{err_from_is_err_and}
use Rattle.delay_bind.specs.Binding.{entries_in, with_entry}
use Rattle.delay_bind.proofs.ReadLaws.{after-ok, AreReadTo-more, IsRefusal-row}
use Rattle.delay_bind.proofs.entries.entries.Goals as goal

pub returns-in_err-entry : goal.returns-in_err-entry
returns-in_err-entry c =
    let p = err_from_is_err_and c.from_residual.result c.from_residual.ensures.1 in
    rw (p.1, p.2) (IsRefusal-row c.args.flat.now c.args.rows.now c.loop-row.row-index c.row-item.result c.loop-row-test.true c.row-item.is c.loop-row.invariant.accepted c.in_err-entry.field-0.0 c.in_err-entry.ensures)

pub loop-row-preserved : goal.loop-row-preserved
loop-row-preserved c =
    AreReadTo-more c.args.flat.now c.args.rows.now c.loop-row.row-index c.row-item.result c.loop-row-test.true c.row-item.is c.in_ok-entry.entry (entries_in c.loop-row.lists) (entries_in c.add.new.lists) c.loop-row.invariant
    c.in_ok-entry.ensures.0 c.in_ok-entry.ensures.1
    (after-ok c.add.result (entries_in c.add.new.lists ≡ with_entry (entries_in c.loop-row.lists) c.in_ok-entry.entry) (sym c.is_err.ensures.value ∙ c.if-is_err.false) c.add.ensures)
