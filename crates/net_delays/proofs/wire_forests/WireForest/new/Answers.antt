use Rattle.std.proofs.Common.{sym, ◌∙◌, arith}
use Rattle.net_delays.proofs.ForestLemmas.{driver_within}
use Rattle.net_delays.proofs.wire_forests.WireForest.new.Goals as goal

pub grow-requires-clause-within : goal.grow-requires-clause-within
grow-requires-clause-within c = rw c.deref.ensures.value (λ v u is.
    let below = driver_within c.args.wires.now c.args.pins c.requires.from v u (sym (c.in_ok-drivers.ensures.drives v) ∙ is) in
    omega (arith, below, c.in_ok-drivers.ensures.size))
