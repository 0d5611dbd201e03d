use Rattle.std.proofs.Common.{◌≡◌, arith}
use Rattle.least_check.proofs.arrivals.sweep.Goals as goal

pub returns : goal.returns
returns c =
    let whole : c.loop-place.place ≡ c.args.problem.now.nodes = omega (arith, c.requires.order.size) in
    record { swept = record { order = c.args.order.now; sweep = rw whole at c.loop-place.invariant } }
