use Rattle.std.proofs.Common.{◌≡◌, drop}
use Rattle.bud_design.specs.Exceptions.{has_pin}
use Rattle.timing_scopes.proofs.delays.has_pin.Given as goal

abbrev pub invariant-loop-other : goal.invariant-loop-other
invariant-loop-other l = has_pin l.pins l.pin.0 ≡ has_pin (drop l.other-index l.pins) l.pin.0
