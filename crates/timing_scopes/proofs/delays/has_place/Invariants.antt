use Rattle.std.proofs.Common.{◌≡◌, drop}
use Rattle.std.specs.List.{list_any}
use Rattle.timing_scopes.specs.Resolving.{same_place}
use Rattle.timing_scopes.proofs.delays.has_place.Given as goal

abbrev pub invariant-loop-y : goal.invariant-loop-y
invariant-loop-y l = list_any (same_place l.x) l.delays ≡ list_any (same_place l.x) (drop l.y-index l.delays)
