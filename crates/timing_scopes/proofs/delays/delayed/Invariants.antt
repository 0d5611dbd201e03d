use Rattle.std.proofs.Common.{◌≡◌, map, drop}
use Rattle.timing_scopes.specs.Resolving.{delayed, with_delays, delay_at}
use Rattle.timing_scopes.proofs.delays.delayed.Given as goal

abbrev pub invariant-loop-pin : goal.invariant-loop-pin
invariant-loop-pin l = delayed l.add l.pins l.clock l.edge l.amount l.delays ≡ with_delays l.made.items (map (delay_at l.clock l.edge l.amount) (drop l.pin-index l.pins))
