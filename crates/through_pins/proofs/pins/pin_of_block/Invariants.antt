use Rattle.std.proofs.Common.{◌≡◌, drop}
use Rattle.bud_design.specs.Lists.{first_some}
use Rattle.block_theory.specs.Blocks.{group_inside}
use Rattle.through_pins.proofs.pins.pin_of_block.Given as goal

abbrev pub invariant-loop-exception : goal.invariant-loop-exception
invariant-loop-exception l =
    first_some (λ e. first_some (group_inside l.flat l.block) e.groups) l.exceptions ≡ first_some (λ e. first_some (group_inside l.flat l.block) e.groups) (drop l.exception-index l.exceptions)
