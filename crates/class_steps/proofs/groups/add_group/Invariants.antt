use Rattle.std.proofs.Common.{◌≡◌, ◌==◌, ◌&&◌, ◌||◌, take}
use Rattle.bud_design.specs.Exceptions.{has_pin}
use Rattle.class_steps.specs.Groups.{holds}
use Rattle.class_steps.specs.declared.groups.GroupPin.{GroupPin}
use Rattle.class_steps.proofs.groups.add_group.Given as goal

abbrev pub invariant-loop-pin : goal.invariant-loop-pin
invariant-loop-pin l =
    (q : GroupPin) → holds l.pins.keys q ≡ (holds l.fn.pins.keys q || (l.number == q.number && (l.steps == q.steps && has_pin (take l.pin-index l.group) q.pin.0)))
