use Rattle.std.proofs.Common.{◌≡◌, ◌++◌, None, replicate, ap, ◌∙◌}
use Rattle.net_drivers.specs.Appending.{constant_width}
use Rattle.net_drivers.proofs.AppendLaws.{on_ok, Appends-span, Appends-replicate, constant_bits_are}
use Rattle.net_drivers.proofs.numbers.put_piece.Goals as goal

pub returns-in-Some : goal.returns-in-Some
returns-in-Some c = on_ok _ (λ put'. Appends-span c.in-Some.ensures put') c.put_span.ensures

pub returns-in-None : goal.returns-in-None
returns-in-None c =
    let m = c.args.table.now.module.now in
    on_ok c.put_none.result
    (λ (put' : c.put_none.new.into.items ≡ c.args.into.now.items ++ replicate c.constant_width.result None).
    Appends-replicate {m = m} {new = c.put_none.new.into.items} (constant_width c.args.piece.now) (constant_bits_are m c.args.piece.now c.in-None.ensures)
    (put' ∙ ap (λ w. c.args.into.now.items ++ replicate w None) c.constant_width.ensures))
    c.put_none.ensures
