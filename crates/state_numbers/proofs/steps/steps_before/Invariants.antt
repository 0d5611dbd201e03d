use Rattle.std.proofs.Common.{◌≡◌, ◌-◌, length, drop}
use Rattle.bud_design.specs.Layers.{steps_before as comes_before}
use Rattle.state_numbers.proofs.steps.steps_before.Given as goal

abbrev pub invariant-loop-place : goal.invariant-loop-place
invariant-loop-place l = comes_before l.steps l.others ≡ comes_before (drop l.place l.steps) (drop l.place l.others)

abbrev pub decreases-loop-place : goal.decreases-loop-place
decreases-loop-place l = length l.steps - l.place
