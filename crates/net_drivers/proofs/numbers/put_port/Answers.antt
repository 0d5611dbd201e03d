use Rattle.std.proofs.Common.{◌≡◌, ◌++◌, None, length, replicate, ap, ◌∙◌, arith}
use Rattle.module_nets.specs.Numbers.{range_width}
use Rattle.net_drivers.proofs.AppendLaws.{on_ok, Appends-open}
use Rattle.net_drivers.proofs.numbers.put_port.Goals as goal

pub returns : goal.returns
returns c =
    let same : length c.put_pieces.new.into.items ≡ length c.args.into.now.items = omega arith in
    on_ok c.put_none.result
    (λ (put' : c.put_none.new.into.items ≡ c.put_pieces.new.into.items ++ replicate c.range_width.result None).
    Appends-open c.args.port.now.range c.in_ok-put_pieces.ensures same (put' ∙ ap (λ w. c.put_pieces.new.into.items ++ replicate w None) c.range_width.ensures))
    c.put_none.ensures
