use Rattle.std.proofs.Common.{◌≡◌, ◌<◌, length}
use Rattle.bud_design.specs.Designs.{is_inside as lies_inside}
use Rattle.policy_lines.proofs.places.is_inside.Given as goal

abbrev pub invariant-loop-here : goal.invariant-loop-here
invariant-loop-here l = (lies_inside l.places l.root l.place ≡ lies_inside l.places l.root l.here) × (l.here < length l.places)

abbrev pub decreases-loop-here : goal.decreases-loop-here
decreases-loop-here l = l.here
