use Rattle.std.proofs.Common.{sym, ◌∙◌, drop}
use Rattle.state_numbers.proofs.Rising.{steps_before-past}
use Rattle.state_numbers.proofs.steps.steps_before.Goals as goal

pub returns-else-place-others : goal.returns-else-place-others
returns-else-place-others c =
    sym (c.loop-place.invariant ∙ steps_before-past (drop c.loop-place.place c.args.steps.now) c.args.others.now c.loop-place.place c.if-place-others.false)
