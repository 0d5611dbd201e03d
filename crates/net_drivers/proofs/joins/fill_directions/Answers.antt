use Rattle.std.proofs.Common.{◌++◌, replicate, ap, ◌∙◌}
use Rattle.net_drivers.proofs.JoinLaws.{directions-next}
use Rattle.net_drivers.proofs.joins.fill_directions.Goals as goal

pub loop-port-preserved : goal.loop-port-preserved
loop-port-preserved c =
    directions-next c.args.ports.now c.loop-port.port-index c.port-item.result c.loop-port.dirs.items c.put_direction.new.into.items c.loop-port-test.true c.port-item.is
    (c.in_ok-put_direction.ensures ∙ ap (λ w. c.loop-port.dirs.items ++ replicate w c.port-item.result.dir) c.range_width.ensures)
    ∙ c.loop-port.invariant
