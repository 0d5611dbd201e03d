use Rattle.bud_base.proofs.OrderLemmas.{IsCycle-none}
use Rattle.least_check.proofs.checks.LeastCheck.run.Goals as goal

pub prove-unreachable-requires : goal.prove-unreachable-requires
prove-unreachable-requires c =
    IsCycle-none _ _ _ c.requires.sound.order.1 _ (rw c.as_slice.ensures at (c.find-ordered.ensures.cycle c.if-prove.true))
