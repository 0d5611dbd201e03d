use Rattle.class_steps.proofs.GroupSets.{gathered-more}
use Rattle.class_steps.proofs.groups.GroupPins.of.Goals as goal

pub loop-exception-preserved : goal.loop-exception-preserved
loop-exception-preserved c =
    gathered-more c.args.exceptions.now c.loop-exception.exception-index c.exception-item.result c.exception-item.result c.loop-exception.numbers.keys c.gather.new.numbers.keys c.loop-exception.pins.keys
    c.gather.new.pins.keys c.loop-exception-test.true c.exception-item.is c.loop-exception.invariant c.in_ok-gather.ensures.noted c.in_ok-gather.ensures.gathered
