use Rattle.net_delays.specs.Climbs.{IsCrowned}
use Rattle.net_delays.proofs.forests.settle_top.Given as goal

abbrev pub invariant-loop-pin : goal.invariant-loop-pin
invariant-loop-pin l = IsCrowned l.fn.marks l.marks l.top l.pin-index
