use Rattle.std.proofs.Common.{◌≡◌, ◌==◌, ◌&&◌, ◌||◌, take}
use Rattle.bud_design.specs.Exceptions.{has_pin, group_after}
use Rattle.class_steps.specs.Groups.{holds}
use Rattle.class_steps.specs.declared.groups.GroupPin.{GroupPin}
use Rattle.class_steps.proofs.groups.add_groups.Given as goal

abbrev pub invariant-loop-place : goal.invariant-loop-place
invariant-loop-place l =
    (q : GroupPin) → holds l.pins.keys q ≡ (holds l.fn.pins.keys q || (l.exception.number == q.number && has_pin (group_after q.steps (take l.place l.exception.groups)) q.pin.0))
