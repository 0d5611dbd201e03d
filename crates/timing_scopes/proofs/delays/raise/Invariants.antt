use Rattle.std.proofs.Common.{◌≡◌, ◌++◌, map, take, drop}
use Rattle.timing_scopes.specs.Resolving.{raised}
use Rattle.timing_scopes.proofs.delays.raise.Given as goal

abbrev pub invariant-loop-y : goal.invariant-loop-y
invariant-loop-y l = l.delays ≡ map (raised l.x) (take l.y-index l.initial.delays) ++ drop l.y-index l.initial.delays
