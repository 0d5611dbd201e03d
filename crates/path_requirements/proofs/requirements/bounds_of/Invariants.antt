use Rattle.std.proofs.Common.{◌≡◌, drop}
use Rattle.path_requirements.specs.Bounds.{IsModest, no_bounds, bounds_with_all}
use Rattle.path_requirements.specs.Matching.{kinds_met}
use Rattle.path_requirements.proofs.requirements.bounds_of.Given as goal

abbrev pub invariant-loop-state : goal.invariant-loop-state
invariant-loop-state l =
    IsModest l.bounds.more
    × (bounds_with_all l.launch l.capture no_bounds (kinds_met l.exceptions l.at l.met)
    ≡ bounds_with_all l.launch l.capture l.bounds (kinds_met l.exceptions l.at (drop l.state-index l.met)))
