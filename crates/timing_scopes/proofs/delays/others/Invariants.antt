use Rattle.std.proofs.Common.{◌≡◌, ◌++◌, drop, filter}
use Rattle.std.specs.Prelude.{not}
use Rattle.bud_design.specs.Exceptions.{has_pin}
use Rattle.timing_scopes.proofs.delays.others.Given as goal

abbrev pub invariant-loop-delay : goal.invariant-loop-delay
invariant-loop-delay l = filter (λ x. not (has_pin l.pins x.pin.0)) l.delay-items ≡ l.found.items ++ filter (λ x. not (has_pin l.pins x.pin.0)) (drop l.delay-index l.delay-items)
