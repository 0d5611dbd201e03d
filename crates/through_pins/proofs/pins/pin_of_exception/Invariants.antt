use Rattle.std.proofs.Common.{◌≡◌, drop}
use Rattle.bud_design.specs.Lists.{first_some}
use Rattle.block_theory.specs.Blocks.{group_inside}
use Rattle.through_pins.proofs.pins.pin_of_exception.Given as goal

abbrev pub invariant-loop-group : goal.invariant-loop-group
invariant-loop-group l = first_some (group_inside l.flat l.block) l.groups ≡ first_some (group_inside l.flat l.block) (drop l.group-index l.groups)
