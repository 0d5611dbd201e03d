use Rattle.module_nets.specs.Tables.{holds}
use Rattle.module_nets.proofs.TopSteps.{instances_more}
use Rattle.module_nets.proofs.tops.note_instances.Goals as goal

pub loop-instance-preserved : goal.loop-instance-preserved
loop-instance-preserved c = λ seen noted.
    instances_more c.args.instances.now c.loop-instance.instance-index c.instance-item.result c.as_slice.result.now seen (holds c.loop-instance.names) (holds c.note.new.names) c.loop-instance-test.true c.instance-item.is
    c.as_slice.ensures (c.loop-instance.invariant seen noted) c.in_ok-note.ensures.noted
