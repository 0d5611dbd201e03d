use Rattle.std.proofs.Common.{◌≡◌, drop}
use Rattle.bud_design.specs.Exceptions.{has_clock}
use Rattle.path_requirements.proofs.matching.has_clock.Given as goal

abbrev pub invariant-loop-other : goal.invariant-loop-other
invariant-loop-other l = has_clock l.clocks l.clock ≡ has_clock (drop l.other-index l.clocks) l.clock
